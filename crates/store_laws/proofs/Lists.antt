-- Lists that are one for one.
use Rattle.std.proofs.Common.{List, [], ◌∷◌, ◌++◌}
use Rattle.store_laws.specs.Told.{OneForOne}

pub both : {A B : Type 0} (P : A → B → Type 0) (xs more : List A) (ys others : List B)
    → OneForOne P xs ys → OneForOne P more others → OneForOne P (xs ++ more) (ys ++ others)
both P [] more [] others h k = k
both P (x ∷ xs) more (y ∷ ys) others h k = (h.0, both P xs more ys others h.1 k)
both P [] more (y ∷ ys) others h k = absurd h
both P (x ∷ xs) more [] others h k = absurd h
