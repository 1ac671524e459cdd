-- Causes of refusals: what is read is spelled so, and what is spelled so is read.
use Rattle.std.proofs.Common.{◌≡◌, ℕ, ◌+◌, ◌<◌, Bool, true, cond, eqb, inl, inr, List, [], ◌∷◌, ◌++◌, length, get_or, drop, Option, Some, None, Ok, refl, sym, ap, subst, ◌∙◌, arith}
use Rattle.std.specs.Prelude.{map}
use Rattle.std.proofs.lemmas.Bool.{eq-eqb, ne_eqb}
use Rattle.std.proofs.lemmas.Fmt.{decimal_digit}
use Rattle.harp_types.specs.Server.{number_of}
use Rattle.harp_types.specs.declared.server.ServerId.{ServerId}
use Rattle.harp_types.specs.declared.server.ServerId.TheVariants as servers
use Rattle.harp_types.specs.declared.cause.Cause.{Cause}
use Rattle.harp_types.specs.declared.cause.Cause.TheVariants as cause
use Rattle.text_spelling.specs.Text.{spaced}
use Rattle.text_spelling.specs.Lines.{hint_text, cause_text}
use Rattle.schedule_text.specs.Fields.{Read, EndsWord, spaced_at, server_at}
use Rattle.schedule_text.proofs.Places.{Spells, IsField, head_at, chosen, ok_is, read_of}
use Rattle.schedule_text.proofs.FieldLaws.{server_text}
use Rattle.schedule_text.proofs.Faults.{PlacedReader}
use Rattle.schedule_text.proofs.Faults as faults
use Rattle.schedule_text.specs.Reading.{made_at}
use Rattle.schedule_text.proofs.Rows.{IsRow, spaced_row, made_takes, made_again, made_placed}
use Rattle.trace_text.specs.declared.cause_form.CauseForm.{CauseForm}
use Rattle.trace_text.specs.declared.cause_form.CauseForm.TheVariants as causes
use Rattle.trace_text.specs.Fields.{value_named, mark_at}
use Rattle.trace_text.specs.Replies.{hint_at, cause_name, cause_forms, cause_fields_at, cause_at}
use Rattle.trace_text.proofs.Pieces.{IsPiece, made_piece, mark_piece, server_piece, respelled, word_stops}
use Rattle.trace_text.proofs.Named.{Any, is_word, value_unique, IsByName, by_field, by_placed}

-- ---- hints

abbrev Hint : Type 0
Hint = Option ServerId

abbrev no_hint : Unit {0} → Hint
no_hint u = None

abbrev IsNoHint : Hint → Type 0
IsNoHint None = Unit {0}
IsNoHint (Some server) = ⊥

abbrev IsHint : Hint → Type 0
IsHint None = ⊥
IsHint (Some server) = Unit {0}

abbrev hinted : Hint → ServerId
hinted None = servers.Zero
hinted (Some server) = server

none_here : (o : Hint) → IsNoHint o
    → Unit {0} × ((no_hint tt ≡ o) × (hint_text o ≡ 45 ∷ []))
none_here None is = (tt, (refl, refl))
none_here (Some server) is = absurd is

some_here : (o : Hint) → IsHint o
    → Unit {0} × ((Some (hinted o) ≡ o) × (hint_text o ≡ server_text (hinted o)))
some_here None is = absurd is
some_here (Some server) is = (tt, (refl, refl))

none_piece : IsPiece (made_at (mark_at 45) no_hint) hint_text IsNoHint
none_piece = made_piece (mark_piece 45 (omega arith)) no_hint (record {
  back = λ o. tt;
  there = λ u fits. (refl, tt);
  here = none_here;
})

some_piece : IsPiece (made_at server_at Some) hint_text IsHint
some_piece = made_piece server_piece Some (record {
  back = hinted;
  there = λ s fits. (refl, tt);
  here = some_here;
})

abbrev hint_read : List ℕ → ℕ → Bool → Read Hint
hint_read line at dash =
    cond dash (made_at (mark_at 45) no_hint line at) (made_at server_at Some line at)

hint_takes : (line : List ℕ) (at : ℕ) (x : Hint × ℕ) → hint_at line at ≡ Ok x
    → Spells line at (hint_text x.0) x.1 × Any x.0
unfolding hint_at
hint_takes line at x e =
    elim (chosen (eqb (get_or line at 0) 45) (made_at (mark_at 45) no_hint line at)
    (made_at server_at Some line at) (Ok x) e) [
      | inl dash ↦ ((none_piece.takes line at x dash.1).0, tt)
      | inr other ↦ ((some_piece.takes line at x other.1).0, tt)
    ]

server_low : (s : ServerId) → number_of s < 10
server_low servers.Zero = omega arith
server_low servers.One = omega arith
server_low servers.Two = omega arith

server_first : (line : List ℕ) (at : ℕ) (s : ServerId) (rest : List ℕ)
    → drop at line ≡ server_text s ++ rest → get_or line at 0 ≡ 48 + number_of s
server_first line at s rest e =
    head_at line at ((48 + number_of s) ∷ rest)
    (e ∙ ap (λ (l : List ℕ). l ++ rest) (decimal_digit (number_of s) (server_low s)))

hint_again : (line : List ℕ) (at : ℕ) (o : Hint) (rest : List ℕ) → Any o → EndsWord rest
    → drop at line ≡ hint_text o ++ rest
    → hint_at line at ≡ Ok (o, at + length (hint_text o))
unfolding hint_at
hint_again line at None rest fits ends e =
    ap (hint_read line at) (eq-eqb (get_or line at 0) 45 (head_at line at (45 ∷ rest) e))
    ∙ none_piece.again line at None rest tt (word_stops rest ends) e
hint_again line at (Some s) rest fits ends e =
    ap (hint_read line at)
    (ne_eqb (get_or line at 0) 45 (λ dash. omega (arith, dash, server_first line at s rest e)))
    ∙ some_piece.again line at (Some s) rest tt (word_stops rest ends) e

hint_placed : PlacedReader hint_at
unfolding hint_at
hint_placed line at =
    faults.choice (eqb (get_or line at 0) 45) _ _ (none_piece.placed line at)
    (some_piece.placed line at)

hint_row : IsRow (spaced_at hint_at) (λ o. spaced (hint_text o)) Any
hint_row = spaced_row hint_at hint_text Any (record { takes = hint_takes; again = hint_again })
    hint_placed

-- ---- causes

abbrev cause_form : Cause → CauseForm
cause_form cause.BadClient = causes.BadClient
cause_form (cause.NotLeader hint) = causes.NotLeader
cause_form cause.NotYetOpen = causes.NotYetOpen
cause_form cause.NoPromise = causes.NoPromise
cause_form cause.LogFull = causes.LogFull
cause_form cause.Old = causes.Old

abbrev cause_rest : Cause → List ℕ
cause_rest cause.BadClient = []
cause_rest (cause.NotLeader hint) = spaced (hint_text hint)
cause_rest cause.NotYetOpen = []
cause_rest cause.NoPromise = []
cause_rest cause.LogFull = []
cause_rest cause.Old = []

cause_parts : (c : Cause) → cause_text c ≡ cause_name (cause_form c) ++ cause_rest c
cause_parts cause.BadClient = refl
cause_parts (cause.NotLeader hint) = refl
cause_parts cause.NotYetOpen = refl
cause_parts cause.NoPromise = refl
cause_parts cause.LogFull = refl
cause_parts cause.Old = refl

abbrev IsOf : CauseForm → Cause → Type 0
IsOf n c = Unit {0} × (cause_form c ≡ n)

-- a cause that has no more than its name
bare_takes : (c : Cause) → cause_rest c ≡ [] → (line : List ℕ) (at : ℕ) (x : Cause × ℕ)
    → read_of c at ≡ Ok x → Spells line at (cause_rest x.0) x.1 × IsOf (cause_form c) x.0
bare_takes c bare line at x e =
    subst (λ (y : Cause × ℕ). Spells line at (cause_rest y.0) y.1 × IsOf (cause_form c) y.0)
    (ok_is (c, at) x e) (
      subst (λ (l : List ℕ). Spells line at l at) (sym bare)
          (record { parts = refl; length_is = omega arith }),
      (tt, refl),
    )

cause_take : (n : CauseForm) (line : List ℕ) (at : ℕ) (x : Cause × ℕ)
    → cause_fields_at n line at ≡ Ok x → Spells line at (cause_rest x.0) x.1 × IsOf n x.0
unfolding cause_fields_at
cause_take causes.BadClient line at x e = bare_takes cause.BadClient refl line at x e
cause_take causes.NotLeader line at x e =
    made_takes hint_row cause.NotLeader cause_rest (IsOf causes.NotLeader) (λ a f. (refl, (tt, refl)))
    line at x e
cause_take causes.NotYetOpen line at x e = bare_takes cause.NotYetOpen refl line at x e
cause_take causes.NoPromise line at x e = bare_takes cause.NoPromise refl line at x e
cause_take causes.LogFull line at x e = bare_takes cause.LogFull refl line at x e
cause_take causes.Old line at x e = bare_takes cause.Old refl line at x e

bare_again : (c : Cause) (at : ℕ) → read_of c at ≡ read_of c (at + 0)
bare_again c at = ap (λ (n : ℕ). read_of c n) {x = at} {y = at + 0} (omega arith)

cause_give : (c : Cause) (line : List ℕ) (at : ℕ) (rest : List ℕ) → EndsWord rest
    → drop at line ≡ cause_rest c ++ rest
    → cause_fields_at (cause_form c) line at ≡ Ok (c, at + length (cause_rest c))
unfolding cause_fields_at
cause_give cause.BadClient line at rest ends e = bare_again cause.BadClient at
cause_give (cause.NotLeader hint) line at rest ends e =
    made_again hint_row cause.NotLeader hint tt line at rest ends e
cause_give cause.NotYetOpen line at rest ends e = bare_again cause.NotYetOpen at
cause_give cause.NoPromise line at rest ends e = bare_again cause.NoPromise at
cause_give cause.LogFull line at rest ends e = bare_again cause.LogFull at
cause_give cause.Old line at rest ends e = bare_again cause.Old at

cause_ends : (c : Cause) (rest : List ℕ) → EndsWord rest → EndsWord (cause_rest c ++ rest)
cause_ends cause.BadClient rest ends = ends
cause_ends (cause.NotLeader hint) rest ends = refl
cause_ends cause.NotYetOpen rest ends = ends
cause_ends cause.NoPromise rest ends = ends
cause_ends cause.LogFull rest ends = ends
cause_ends cause.Old rest ends = ends

cause_placed : (n : CauseForm) → PlacedReader (cause_fields_at n)
unfolding cause_fields_at
cause_placed causes.BadClient line at = tt
cause_placed causes.NotLeader line at = made_placed hint_row cause.NotLeader line at
cause_placed causes.NotYetOpen line at = tt
cause_placed causes.NoPromise line at = tt
cause_placed causes.LogFull line at = tt
cause_placed causes.Old line at = tt

cause_again : (n : CauseForm) → value_named cause_name cause_forms (cause_name n) ≡ Some n
cause_again causes.BadClient = refl
cause_again causes.NotLeader = refl
cause_again causes.NotYetOpen = refl
cause_again causes.NoPromise = refl
cause_again causes.LogFull = refl
cause_again causes.Old = refl

cause_word : (n : CauseForm) → is_word (cause_name n) ≡ true
cause_word causes.BadClient = refl
cause_word causes.NotLeader = refl
cause_word causes.NotYetOpen = refl
cause_word causes.NoPromise = refl
cause_word causes.LogFull = refl
cause_word causes.Old = refl

causes_by_name : IsByName (value_named cause_name cause_forms) cause_fields_at cause_name
    cause_form cause_rest Any EndsWord
causes_by_name = record {
  unique = value_unique cause_name cause_forms;
  again = λ c fits. cause_again (cause_form c);
  word = cause_word;
  take = λ n line at x means e. cause_take n line at x e;
  give = λ c line at rest fits ends within e. cause_give c line at rest ends e;
  ends = cause_ends;
  placed = cause_placed;
}

cause_field : IsField cause_at cause_text Any
unfolding cause_at
cause_field = respelled cause_text cause_parts (by_field (map cause_name cause_forms) causes_by_name)

cause_all_placed : PlacedReader cause_at
unfolding cause_at
cause_all_placed = by_placed (map cause_name cause_forms) causes_by_name

pub cause_row : IsRow (spaced_at cause_at) (λ c. spaced (cause_text c)) Any
cause_row = spaced_row cause_at cause_text Any cause_field cause_all_placed
