use Rattle.std.proofs.Common.{◌≡◌, ◌∙◌, ap, sym, subst, List, true, false}
use Rattle.std.proofs.lemmas.Result.{on_ok_weaker}
use Rattle.file_tree.specs.Book.{Entry}
use Rattle.group_rules.specs.Moves.{Move}
use Rattle.group_rules.specs.State.{NotYetOpen}
use Rattle.replica.proofs.Asked.{refused_so}
use Rattle.replica.proofs.Asking.{asks_read, asks_shut, asks_update, read_reads, update_reads}
use Rattle.replica.specs.Asking.{Asked}
use Rattle.replica.specs.Leading.{Leading}
use Rattle.replica.proofs.leader.Leader.ask.Goals as goal

pub returns-then-not-self-clause-asked : goal.returns-then-not-self-clause-asked
returns-then-not-self-clause-asked g c =
    let a = c.args in
    let k = a.asker in
    let l = a.self.now in
    let outs = c.refuse-then-not-self.new.outs in
    let shut : l.opened ≡ false =
    ap (λ (l : Leading). l.opened) (sym c.self.view_is) ∙ c.if-not-self.true in
    on_ok_weaker c.refuse-then-not-self.result
    (λ told o list holds. subst (λ (ms : List (Move Entry)). Asked a.now list ms k.peer o l l
    a.outs.now outs)
    (sym (asks_shut l o a.now k.client k.number list k.cred a.call.now
    c.if-asker-gt-LAST_CLIENT.false shut))
    (refused_so a.now list k.client k.number NotYetOpen k.peer o l l.cached a.outs.now outs told
    c.refuse-then-not-self.ensures.records))
    c.refuse-then-not-self.ensures.said

pub returns-then-is_update-clause-asked : goal.returns-then-is_update-clause-asked
returns-then-is_update-clause-asked g c =
    let a = c.args in
    let k = a.asker in
    let l = a.self.now in
    let few = c.if-asker-gt-LAST_CLIENT.false in
    let opened : l.opened ≡ true = ap (λ (l : Leading). l.opened) (sym c.self.view_is)
    ∙ c.if-not-self.false in
    let update = sym c.if-is_update.ensures in
    on_ok_weaker c.update.result
    (λ made o list holds. subst (λ (ms : List (Move Entry)). Asked a.now list ms k.peer o l
    c.update.new.self a.outs.now c.update.new.outs)
    (sym (asks_update l o a.now k.client k.number list k.cred a.call.now few opened update))
    (made o list (holds (update_reads l k.client a.now a.call.now few opened update))))
    c.update.ensures.asked

pub returns-else-is_update-clause-asked : goal.returns-else-is_update-clause-asked
returns-else-is_update-clause-asked g c =
    let a = c.args in
    let k = a.asker in
    let l = a.self.now in
    let few = c.if-asker-gt-LAST_CLIENT.false in
    let opened : l.opened ≡ true = ap (λ (l : Leading). l.opened) (sym c.self.view_is)
    ∙ c.if-not-self.false in
    let read = sym c.if-is_update.ensures in
    on_ok_weaker c.read.result
    (λ made o list holds. subst (λ (ms : List (Move Entry)). Asked a.now list ms k.peer o l
    c.read.new.self a.outs.now c.read.new.outs)
    (sym (asks_read l o a.now k.client k.number list k.cred a.call.now few opened read))
    (made o list (λ runs. holds (read_reads l k.client a.now a.call.now few opened read runs))))
    c.read.ensures.asked
