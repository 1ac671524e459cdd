-- Clauses on results, from others.
use Rattle.std.proofs.Common.{Ok, Err, Result}
use Rattle.std.specs.Prelude.{OnErr, OnOk}

pub on_ok-both : {A E P Q R : Type 0} (r : Result A E) → (P → Q → R) → OnOk r P → OnOk r Q → OnOk r R
on_ok-both (Ok x) f p q = f p q
on_ok-both (Err e) f p q = tt

pub on_err-one : {A E P R : Type 0} (r : Result A E) → (P → R) → OnErr r P → OnErr r R
on_err-one (Ok x) f p = tt
on_err-one (Err e) f p = f p

pub on_ok-one : {A E P R : Type 0} (r : Result A E) → (P → R) → OnOk r P → OnOk r R
on_ok-one (Ok x) f p = f p
on_ok-one (Err e) f p = tt

pub on_err : {A E P : Type 0} (r : Result A E) → P → OnErr r P
on_err (Ok x) p = tt
on_err (Err e) p = p
