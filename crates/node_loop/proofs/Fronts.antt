-- What a loop over a list has done so far.
use Rattle.std.proofs.Common.{◌≡◌, ◌∙◌, ◌<◌, List, [], ◌∷◌, ◌++◌, Option, None, Some, ap, drop, get_or, length, refl, suc, sym, take}
use Rattle.std.specs.Prelude.{map}
use Rattle.std.proofs.Math.Seq.{split_at}
use Rattle.std.proofs.lemmas.List.{append-nil, map-id}
use Rattle.node_link.specs.Traffic.{Traffic}
use Rattle.node_loop.specs.Scene.{with_all_sent}

-- those so far, this one, and the rest
pub split-here : {A : Type 0} (all so_far : List A) (x : A)
    → map (λ y. y) so_far ≡ take (length so_far) all → length so_far < length all
    → x ≡ get_or all (length so_far) x
    → all ≡ so_far ++ x ∷ drop (suc (length so_far)) all
split-here all so_far x front here is =
    let rest = drop (suc (length so_far)) all in
    split_at all (length so_far) x here
    ∙ ap (λ xs. xs ++ get_or all (length so_far) x ∷ rest) (sym front ∙ map-id so_far)
    ∙ ap (λ y. so_far ++ y ∷ rest) (sym is)

pub sent-none : (told : Option Traffic) → told ≡ with_all_sent [] told
sent-none None = refl
sent-none (Some t) =
    ap (λ ds. Some (record { taken = t.taken; sent = ds; left = t.left })) (sym (append-nil t.sent))
