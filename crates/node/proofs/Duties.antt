-- What a coordinator sends again.
use Rattle.std.proofs.Common.{◌≡◌, ℕ, List, [], ◌++◌, sym, ap, ◌∙◌, subst}
use Rattle.std.specs.Prelude.{Option, option_map}
use Rattle.file_tree.specs.Book.{Entry}
use Rattle.group_rules.specs.Names.{number_of_view}
use Rattle.group_rules.specs.Places.{Zero, One, Two}
use Rattle.group_rules.specs.Tick.{duties, invite_again}
use Rattle.harp_types.specs.View.{View}
use Rattle.harp_types.specs.declared.server.ServerId.{ServerId}
use Rattle.harp_types.specs.declared.trio.Trio.{Trio as Each}
use Rattle.harp_store.specs.Mark.{MarkFields}
use Rattle.node.proofs.Sent.{sending, sent_both, sent_duties, sent_made}
use Rattle.node.specs.Node.{NodeValue, server, value}
use Rattle.node.specs.declared.state.State.{State}
use Rattle.node.specs.declared.state.Task.{Task}
use Rattle.node.specs.declared.state.Task.TheVariants as task
use Rattle.node_outputs.specs.Makes.{Makes}
use Rattle.node_outputs.specs.Said.{said}
use Rattle.node_outputs.specs.declared.outputs.Outputs.{Outputs}
use Rattle.promise.specs.Promise.{HorizonValue}
use Rattle.view_form.specs.Choice.{Collected, report}
use Rattle.view_form.specs.declared.join.JoinInfo.{JoinInfo}

-- the invitations of a coordinator without a choice
pub invites_made : (me : ServerId) (mark : MarkFields) (horizon : HorizonValue) (served : ℕ)
    (duty : Task) (s : State) (c : Collected) (n : NodeValue) (items : List Entry) (clock : ℕ)
    (p : View) (joins : Each (Option JoinInfo)) (before first second after : Outputs)
    → value me mark horizon served duty s ≡ n → duty ≡ task.Collects c → p ≡ mark.promised
    → joins ≡ c.joins
    → said first ≡ sending (said before)
    (invite_again (number_of_view p) Zero (option_map report joins.zero))
    → said second ≡ sending (said first)
    (invite_again (number_of_view p) One (option_map report joins.one))
    → said after ≡ sending (said second)
    (invite_again (number_of_view p) Two (option_map report joins.two))
    → Makes n.me clock (duties n.me (server n items) (server n items).duty) [] (server n items)
    (server n items) before after
invites_made me mark horizon served duty s c n items clock p joins before first second after of at
    view told a b d =
    let zero = invite_again (number_of_view p) Zero (option_map report joins.zero) in
    let one = invite_again (number_of_view p) One (option_map report joins.one) in
    let two = invite_again (number_of_view p) Two (option_map report joins.two) in
    let all = sent_both (said before) (said first) (said after) zero (one ++ two) a
    (sent_both (said first) (said second) (said after) one two b d) in
    let old = value me mark horizon served (task.Collects c) s in
    let same : zero ++ (one ++ two) ≡ duties old.me (server old items) (server old items).duty =
    ap (λ (v : View). invite_again (number_of_view v) Zero (option_map report joins.zero)
    ++ (invite_again (number_of_view v) One (option_map report joins.one)
    ++ invite_again (number_of_view v) Two (option_map report joins.two))) view
    ∙ ap (λ (j : Each (Option JoinInfo)).
    invite_again (number_of_view mark.promised) Zero (option_map report j.zero)
    ++ (invite_again (number_of_view mark.promised) One (option_map report j.one)
    ++ invite_again (number_of_view mark.promised) Two (option_map report j.two))) told in
    let whole : old ≡ n = ap (λ (t : Task). value me mark horizon served t s) (sym at) ∙ of in
    subst (λ (x : NodeValue). Makes x.me clock (duties x.me (server x items) (server x items).duty)
    []
    (server x items) (server x items) before after) whole
    (sent_made old.me clock (duties old.me (server old items) (server old items).duty)
    (server old items) before after
    (sent_duties old.me (server old items) (server old items).duty)
    (all ∙ ap (sending (said before)) same))
