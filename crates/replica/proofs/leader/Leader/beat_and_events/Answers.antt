use Rattle.std.proofs.Common.{◌∙◌, ap, ◌∷◌, ◌++◌, [], Option}
use Rattle.std.proofs.lemmas.Result.{on_ok_weaker}
use Rattle.file_tree.specs.Book.{Entry}
use Rattle.group_rules.specs.Places.{Place}
use Rattle.group_rules.specs.State.{Message}
use Rattle.node_outputs.specs.Messages.{heard}
use Rattle.node_outputs.specs.Said.{said}
use Rattle.replica.proofs.Ticking.{ticked}
use Rattle.replica.specs.Leading.{Leading, partner_of}
use Rattle.replica.proofs.leader.Leader.beat_and_events.Goals as goal

pub returns-clause-makes : goal.returns-clause-makes
returns-clause-makes c =
    let l = c.args.self.now in
    let b = said c.args.outs.now in
    let to = c.partner.ensures ∙ ap (λ (l : Leading). partner_of l.beside) c.self.view_is in
    let beat = c.in_ok-send.ensures.said
    ∙ ap (λ (p : Place). record b { sends = b.sends ++ (p, heard c.beat.result) ∷ [] }) to
    ∙ ap (λ (m : Option (Message Entry)). record b {
      sends = b.sends ++
          (partner_of l.beside, m) ∷ [];
    }) c.beat.ensures.heard in
    on_ok_weaker c.send_again.result
    (λ again o clock. ticked l o clock c.args.outs.now c.send.new.self c.send_again.new.outs beat
    again) c.send_again.ensures.said
