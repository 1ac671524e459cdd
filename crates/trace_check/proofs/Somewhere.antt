-- Lines that stand somewhere in a trace.
use Rattle.std.proofs.Common.{◌≡◌, [], ◌∷◌, ◌++◌, refl, sym, ap, subst, ◌∙◌, append_assoc, inl, inr}
use Rattle.std.specs.Prelude.{◌↔◌, ◌⊎◌}
use Rattle.trace_types.specs.declared.line.Line.{Line}
use Rattle.trace_claims.specs.Trace.{Trace}

-- a fact of some line and the lines before it
pub record Somewhere (P : Trace → Line → Type 0) (trace : Trace) : Type 0 where
  pub earlier : Trace
  pub at : Line
  pub later : Trace
  pub stands : trace ≡ earlier ++ at ∷ later
  pub holds : P earlier at

head_is : (x y : Line) (xs ys : Trace) → x ∷ xs ≡ y ∷ ys → x ≡ y
head_is x y xs ys e = cc

tail_is : (x y : Line) (xs ys : Trace) → x ∷ xs ≡ y ∷ ys → xs ≡ ys
tail_is x y xs ys e = cc

not_nothing : (earlier later : Trace) (x : Line) → [] ≡ earlier ++ x ∷ later → ⊥
not_nothing [] later x e = cc
not_nothing (y ∷ earlier) later x e = cc

-- a line of a trace with one more is the last one, or stands before it
split_push : (t earlier later : Trace) (l x : Line) → t ++ l ∷ [] ≡ earlier ++ x ∷ later
    → ((t ≡ earlier) × (l ≡ x)) ⊎ ((rest : Trace) × (t ≡ earlier ++ x ∷ rest))
split_push [] [] later l x e = inl (refl, head_is l x [] later e)
split_push [] (y ∷ earlier) later l x e =
    absurd (not_nothing earlier later x (tail_is l y [] (earlier ++ x ∷ later) e))
split_push (a ∷ t) [] later l x e =
    inr (t, ap (λ b. b ∷ t) (head_is a x (t ++ l ∷ []) later e))
split_push (a ∷ t) (y ∷ earlier) later l x e =
    let h : a ≡ y = head_is a y (t ++ l ∷ []) (earlier ++ x ∷ later) e in
    elim (split_push t earlier later l x (tail_is a y (t ++ l ∷ []) (earlier ++ x ∷ later) e)) [
      | inl p ↦ inl (ap (λ b. b ∷ t) h ∙ ap (λ ts. y ∷ ts) p.0, p.1)
      | inr p ↦ inr (p.0, ap (λ b. b ∷ t) h ∙ ap (λ ts. y ∷ ts) p.1)
    ]

somewhere_less : (P : Trace → Line → Type 0) (t : Trace) (l : Line) → Somewhere P (t ++ l ∷ [])
    → Somewhere P t ⊎ P t l
somewhere_less P t l h = elim (split_push t h.earlier h.later l h.at h.stands) [
  | inl p ↦ inr (subst (λ b. P b l) (sym p.0) (subst (P h.earlier) (sym p.1) h.holds))
  | inr p ↦ inl (record {
    earlier = h.earlier;
    at = h.at;
    later = p.0;
    stands = p.1;
    holds = h.holds;
  })
]

somewhere_more : (P : Trace → Line → Type 0) (t : Trace) (l : Line) → Somewhere P t ⊎ P t l
    → Somewhere P (t ++ l ∷ [])
somewhere_more P t l (inl h) = record {
  earlier = h.earlier;
  at = h.at;
  later = h.later ++ l ∷ [];
  stands = ap (λ ts. ts ++ l ∷ []) h.stands ∙ append_assoc h.earlier (h.at ∷ h.later) (l ∷ []);
  holds = h.holds;
}
somewhere_more P t l (inr h) = record {
  earlier = t;
  at = l;
  later = [];
  stands = refl;
  holds = h;
}

pub somewhere_push : (P : Trace → Line → Type 0) (t : Trace) (l : Line)
    → Somewhere P (t ++ l ∷ []) ↔ (Somewhere P t ⊎ P t l)
somewhere_push P t l = (somewhere_less P t l, somewhere_more P t l)

pub somewhere_nothing : (P : Trace → Line → Type 0) → Somewhere P [] → ⊥
somewhere_nothing P h = not_nothing h.earlier h.later h.at h.stands
