use Rattle.std.proofs.Common.{rules, ◌≡◌, ◌+◌, ℕ, max, ap, ◌∙◌, subst}
use Rattle.std.specs.Prelude.{IfOk}
use Rattle.harp_cells.specs.declared.cell.Cell.TheVariants as cell
use Rattle.tree_log.specs.Records.{entry_after, record_of}
use Rattle.volatile_log.specs.Log.{top}
use Rattle.tree_log.specs.Planning.{stamp_found}
use Rattle.tree_log.proofs.planning.record_over.Goals as goal

pub returns-clause-record : goal.returns-clause-record
returns-clause-record g c list held updates told alike =
    let index : c.new-next.result ≡ top c.args.log.now + 1 =
    c.new-next.ensures ∙ ap (λ (n : ℕ). n + 1) c.top-2.ensures.value in
    let last : c.in_ok-last.last ≡ stamp_found (held cell.Meta) =
    c.in_ok-last.ensures.stamp held (search (rules, told)) in
    let later : c.max.result ≡ max c.args.now c.get.result = search rules in
    let stamp : c.new-stamp.result ≡ max c.args.now (stamp_found (held cell.Meta)) =
    c.new-stamp.ensures ∙ later
    ∙ ap (λ (n : ℕ). max c.args.now n) (c.get.ensures.value ∙ last) in
    let made : IfOk c.new_record.result (λ r. r ≡ record_of c.args.stamped list
    (entry_after list c.new-next.result c.args.client c.args.number c.args.cred c.args.call.now
    c.new-stamp.result)) =
    c.new_record.ensures.record list held updates
    (c.in_ok-last.ensures.kept ∙ search (rules, told)) alike in
    subst (λ (s : ℕ). IfOk c.new_record.result (λ r. r ≡ record_of c.args.stamped list
    (entry_after list (top c.args.log.now + 1) c.args.client c.args.number c.args.cred
    c.args.call.now s))) stamp
    (subst (λ (n : ℕ). IfOk c.new_record.result (λ r. r ≡ record_of c.args.stamped list
    (entry_after list n c.args.client c.args.number c.args.cred c.args.call.now
    c.new-stamp.result))) index made)
