use Rattle.std.proofs.Common.{sym, ◌∙◌, arith}
use Rattle.store_folder.proofs.MarkLaws.{lifted, mark_found, same_fields, some_fields}
use Rattle.store_folder.proofs.mark_file.read_mark_file.Goals as goal

pub returns-in_err-first-clause-only : goal.returns-in_err-first-clause-only
returns-in_err-first-clause-only c = λ m fits is.
    absurd (some_fields c.args.bytes.now m fits is c.fields_in.result c.fields_in.ensures
    c.in_err-first.was)

pub returns-clause-found : goal.returns-clause-found
returns-clause-found c =
    lifted c.mark_of.result _ _
    (λ m h.
    mark_found c.args.bytes.now (λ i. omega (arith, c.type_inv.bytes i)) m c.in_ok-first.first
    c.in_ok-first.last (sym c.fields_in.ensures ∙ c.in_ok-first.was) h.0 h.1 h.2)
    c.mark_of.ensures.found

pub returns-clause-only : goal.returns-clause-only
returns-clause-only c = λ m fits is.
    let same =
    same_fields c.args.bytes.now m fits is c.fields_in.result c.in_ok-first.first
    c.in_ok-first.last c.fields_in.ensures c.in_ok-first.was in
    c.mark_of.ensures.only m fits same.0 same.1
