-- A tick of a server, from its three parts.
use Rattle.std.proofs.Common.{◌≡◌, ℕ, [], ◌++◌, subst}
use Rattle.file_tree.specs.Book.{Entry}
use Rattle.group_rules.specs.Places.{Place}
use Rattle.group_rules.specs.State.{Server}
use Rattle.group_rules.specs.Tick.{again, duties, tick}
use Rattle.node.proofs.InView.{leads}
use Rattle.node.proofs.Sent.{mute_sent, sent_again, sent_duties, sent_then}
use Rattle.node_outputs.specs.Makes.{Makes}
use Rattle.node_outputs.specs.declared.outputs.Outputs.{Outputs}
use Rattle.node_outputs.proofs.Makes.{makes_then}

pub ticks : (q : Place) (clock : ℕ) (s t : Server Entry) (p : Place)
    (before first second after : Outputs) → p ≡ q
    → Makes q clock (leads clock q s) [] s t before first
    → Makes p clock (duties p t t.duty) [] t t first second
    → Makes p clock (again p t) [] t t second after
    → Makes q clock (tick q clock s) [] s t before after
ticks q clock s t p before first second after same leading duty sending =
    let does : Makes q clock (duties q t t.duty) [] t t first second =
    subst (λ (x : Place). Makes x clock (duties x t t.duty) [] t t first second) same duty in
    let sends : Makes q clock (again q t) [] t t second after =
    subst (λ (x : Place). Makes x clock (again x t) [] t t second after) same sending in
    let rest = makes_then q clock (duties q t t.duty) (again q t) [] [] t t t first second after
    does sends (mute_sent (again q t) (sent_again q t)) in
    let all = makes_then q clock (leads clock q s) (duties q t t.duty ++ again q t) [] [] s t t
    before first after leading rest
    (mute_sent (duties q t t.duty ++ again q t)
    (sent_then (duties q t t.duty) (again q t) (sent_duties q t t.duty) (sent_again q t))) in
    subst (λ (x : Server Entry). Makes q clock
    (leads clock q s ++ (duties q x x.duty ++ again q x)) [] s t before after) leading.state all
