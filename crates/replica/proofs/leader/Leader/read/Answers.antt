use Rattle.std.proofs.Common.{◌≡◌, ◌∙◌, ap, sym, subst, true, List}
use Rattle.std.specs.Prelude.{nat_lt}
use Rattle.std.proofs.lemmas.Result.{on_ok_weaker}
use Rattle.file_tree.specs.Book.{Entry}
use Rattle.group_rules.specs.Ask.{read_entry}
use Rattle.group_rules.specs.Moves.{Move}
use Rattle.replica.proofs.Asking.{read_allowed}
use Rattle.replica.specs.Asking.{Asked}
use Rattle.replica.specs.Leading.{Leading}
use Rattle.replica.proofs.leader.Leader.read.Goals as goal

pub returns-clause-asked : goal.returns-clause-asked
returns-clause-asked g c =
    let a = c.args in
    let l = a.self.now in
    let runs : nat_lt a.now l.grant ≡ true =
    ap (λ (l : Leading). nat_lt a.now l.grant) (sym c.self.view_is)
    ∙ sym c.if-not-allows.ensures in
    on_ok_weaker c.answer.result
    (λ made o list holds. subst (λ (ms : List (Move Entry)). Asked a.now list ms a.asker.peer o l
    c.answer.new.self a.outs.now c.answer.new.outs)
    (sym (read_allowed l o a.now
    (read_entry l.log.cp list a.asker.client a.asker.number a.asker.cred a.call.now) runs))
    (made o list a.now (holds runs)))
    c.answer.ensures.asked
