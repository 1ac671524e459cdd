-- Saves that may be cut, behind their names: what is read is spelled so, and what is spelled so is
-- read.
use Rattle.std.proofs.Common.{◌≡◌, ℕ, ◌+◌, ◌^◌, ◌<◌, ◌≤◌, Bool, true, cond, leb, inl, inr, ◌&&◌, List, [], ◌∷◌, ◌++◌, length, get_or, drop, Some, None, Ok, refl, sym, ap, subst, ◌∙◌, append_assoc, arith}
use Rattle.std.specs.Prelude.{decimal, codes}
use Rattle.std.specs.Str.{bytes_eq}
use Rattle.std.proofs.lemmas.Bool.{le-leb}
use Rattle.harp_types.specs.declared.server.ServerId.{ServerId}
use Rattle.harp_types.specs.declared.pick.Pick.{Pick}
use Rattle.trace_types.specs.declared.step.Step.{Step}
use Rattle.trace_types.specs.declared.step.Step.TheVariants as step
use Rattle.text_spelling.specs.Text.{spaced}
use Rattle.text_spelling.specs.Steps.{pick_text}
use Rattle.text_spelling.specs.StepFits.{PickFits}
use Rattle.schedule_text.specs.Fields.{Read, ◌>>=◌, spaced_at, number_at, word_at}
use Rattle.schedule_text.specs.Words.{named_at}
use Rattle.schedule_text.proofs.Places.{Spells, IsField, head_at, drop_past, bind_ok, chosen}
use Rattle.schedule_text.proofs.Numbers.{rereads, base_ten, number_takes, number_again}
use Rattle.schedule_text.proofs.FieldLaws.{ends_digits}
use Rattle.schedule_text.proofs.Faults.{PlacedReader}
use Rattle.schedule_text.proofs.Faults as faults
use Rattle.schedule_text.specs.declared.form.Form.TheVariants as form
use Rattle.schedule_text.specs.Reading.{both_at, made_at, spaced_server_at, cut_at, is_digit_at, all_named, whole_save_at, power_at}
use Rattle.schedule_text.proofs.Words.{word_spells, same_word, name_takes, name_again, name_placed}
use Rattle.schedule_text.proofs.Rows.{IsRow, server_row, both_row, spaced_row, stands, asked_field, made_takes, made_again, made_placed}
use Rattle.schedule_text.proofs.PickLaws.{pick_row}
use Rattle.schedule_text.proofs.FormTexts.{spaced_server, rest_text, IsOfForm}

pub number_within_row : (most : ℕ) → most < 10 ^ 18
    → IsRow (spaced_at (number_at 10 most)) (λ n. spaced (decimal n)) (λ n. n ≤ most)
number_within_row most small = spaced_row (number_at 10 most) decimal (λ n. n ≤ most) (record {
  takes = λ line at x e. number_takes 10 most base_ten small line at x e;
  again = λ line at n rest fits ends e. number_again 10 most base_ten small line at n rest fits
      (ends_digits rest ends) e;
}) (faults.number 10 most)

abbrev cut_text : (ServerId × ℕ) × Pick → List ℕ
cut_text x = (spaced_server x.0.0 ++ spaced (decimal x.0.1)) ++ spaced (pick_text x.1)

abbrev CutFits : ℕ → (ServerId × ℕ) × Pick → Type 0
CutFits most x = (Unit {0} × (x.0.1 ≤ most)) × PickFits x.1

cut_row : (most : ℕ) → most < 10 ^ 18 → IsRow (cut_at most) cut_text (CutFits most)
cut_row most small = both_row (both_row server_row (number_within_row most small)) pick_row

power_cut_row : IsRow (cut_at 999999999999999999) cut_text (CutFits 999999999999999999)
power_cut_row = cut_row 999999999999999999 (omega arith)

pub stop_row : IsRow (cut_at 100000) cut_text (CutFits 100000)
stop_row = cut_row 100000 (omega arith)

abbrev whole_names : List (List ℕ)
whole_names = codes "all" ∷ []

named_all : (word : List ℕ) (u : Unit {0}) → all_named word ≡ Some u → word ≡ codes "all"
named_all word u e =
    elim (chosen (bytes_eq word (codes "all")) (Some tt) None (Some u) e) [
      | inl all ↦ same_word word (codes "all") all.0
      | inr none ↦ absurd (none_is u none.1)
    ]
  where
    none_is : (s : Unit {0}) → None ≡ Some s → ⊥
    none_is s e = cc

abbrev all_text : Unit {0} → List ℕ
all_text u = codes "all"

abbrev Always : Unit {0} → Type 0
Always u = Unit {0}

all_field : IsField (named_at whole_names all_named) all_text Always
all_field = record {
  takes = λ line at x e.
      let n = name_takes whole_names all_named line at x e in (
        subst (λ (l : List ℕ). Spells line at l x.1) (named_all (word_at line at) x.0 n.means)
            (subst (λ (k : ℕ). Spells line at (word_at line at) k) (sym n.place)
            (word_spells line at)),
        tt,
      );
  again = λ line at u rest fits ends e.
      name_again whole_names all_named line at (codes "all") rest u refl refl ends e;
}

whole_pair_row : IsRow (both_at spaced_server_at (spaced_at (named_at whole_names all_named)))
    (λ x. spaced_server x.0 ++ spaced (all_text x.1)) (λ x. Unit {0} × Always x.1)
whole_pair_row = both_row server_row
    (spaced_row (named_at whole_names all_named) all_text Always all_field
    (name_placed whole_names all_named))

abbrev saved : ServerId × Unit {0} → ServerId
saved x = x.0

abbrev saved_text : ServerId → List ℕ
saved_text s = spaced_server s ++ spaced (codes "all")

abbrev Any : ServerId → Type 0
Any s = Unit {0}

saved_row : IsRow whole_save_at saved_text Any
saved_row = record {
  field = record {
    takes = λ line at x e. made_takes whole_pair_row saved saved_text Any
        (λ a fits. (refl, tt)) line at x e;
    again = λ line at s rest fits ends e.
        made_again whole_pair_row saved (s, tt) (tt, tt) line at rest ends e;
  };
  placed = made_placed whole_pair_row saved;
  apart = λ s rest. refl;
}

abbrev cut_save : (ServerId × ℕ) × Pick → Step
cut_save x = step.PowerCut x.0.0 x.0.1 x.1

abbrev power_read : List ℕ → ℕ → Bool → Read Step
power_read line at digit =
    cond digit (made_at (cut_at 999999999999999999) cut_save line at)
    (made_at whole_save_at step.Power line at)

abbrev power_behind : List ℕ → ℕ → ServerId × ℕ → Read Step
power_behind line at server = power_read line at (is_digit_at line (server.1 + 1))

pub power_takes : (line : List ℕ) (at : ℕ) (x : Step × ℕ) → power_at line at ≡ Ok x
    → Spells line at (rest_text x.0) x.1 × IsOfForm form.Power x.0
unfolding power_at
power_takes line at x e =
    let p = bind_ok (spaced_server_at line at) (power_behind line at) x e in
    elim (chosen (is_digit_at line (p.0.1 + 1)) (made_at (cut_at 999999999999999999) cut_save line at)
    (made_at whole_save_at step.Power line at) (Ok x) p.2) [
      | inl digit ↦ made_takes power_cut_row cut_save rest_text (IsOfForm form.Power)
          (λ a fits. (refl, ((omega (arith, fits.0.1), fits.1), refl))) line at x digit.1
      | inr other ↦ made_takes saved_row step.Power rest_text (IsOfForm form.Power)
          (λ a fits. (refl, (tt, refl))) line at x other.1
    ]

is_digit : (b : ℕ) → 48 ≤ b → b ≤ 57 → (leb 48 b && leb b 57) ≡ true
is_digit b low high =
    ap (λ (c : Bool). c && leb b 57) (le-leb 48 b low) ∙ le-leb b 57 high

-- a server stands, and behind it a space and a byte
server_byte : (line : List ℕ) (at : ℕ) (s : ServerId) (b : ℕ) (rest : List ℕ)
    → drop at line ≡ spaced_server s ++ (32 ∷ b ∷ rest)
    → (spaced_server_at line at ≡ Ok (s, at + length (spaced_server s)))
    × (get_or line (at + length (spaced_server s) + 1) 0 ≡ b)
server_byte line at s b rest e =
    let one = stands spaced_server_at spaced_server (λ s. Unit {0}) asked_field line at s
    (32 ∷ b ∷ rest) tt refl e in
    let mid = at + length (spaced_server s) in
    (one.0, head_at line (mid + 1) (b ∷ rest) (drop_past line mid (32 ∷ []) (b ∷ rest) one.1))

pub power_again : (line : List ℕ) (at : ℕ) (s : ServerId) → drop at line ≡ saved_text s ++ []
    → power_at line at ≡ Ok (step.Power s, at + length (saved_text s))
unfolding power_at
power_again line at s e =
    let front : drop at line ≡ spaced_server s ++ (32 ∷ 97 ∷ 108 ∷ 108 ∷ []) =
    e ∙ append_assoc (spaced_server s) (spaced (codes "all")) [] in
    let b = server_byte line at s 97 (108 ∷ 108 ∷ []) front in
    ap (λ (o : Read ServerId). o >>= power_behind line at) b.0
    ∙ ap (λ (c : ℕ). power_read line at (leb 48 c && leb c 57)) b.1
    ∙ made_again saved_row step.Power s tt line at [] tt e

pub power_cut_again : (line : List ℕ) (at : ℕ) (s : ServerId) (calls : ℕ) (p : Pick)
    → calls < 10 ^ 18 → PickFits p → drop at line ≡ cut_text ((s, calls), p) ++ []
    → power_at line at ≡ Ok (step.PowerCut s calls p, at + length (cut_text ((s, calls), p)))
unfolding power_at
power_cut_again line at s calls p fits pf e =
    let r = rereads 10 999999999999999999 base_ten (omega arith) calls (omega (arith, fits)) in
    let last = spaced (pick_text p) in
    let behind = r.others ++ (last ++ []) in
    let digits : spaced (decimal calls) ++ (last ++ []) ≡ 32 ∷ (48 + r.first) ∷ behind =
    ap (λ (l : List ℕ). 32 ∷ (l ++ (last ++ []))) r.parts in
    let front : drop at line ≡ spaced_server s ++ (32 ∷ (48 + r.first) ∷ behind) =
    e ∙ append_assoc (spaced_server s ++ spaced (decimal calls)) last []
    ∙ append_assoc (spaced_server s) (spaced (decimal calls)) (last ++ [])
    ∙ ap (λ (l : List ℕ). spaced_server s ++ l) digits in
    let b = server_byte line at s (48 + r.first) behind front in
    ap (λ (o : Read ServerId). o >>= power_behind line at) b.0
    ∙ ap (λ (c : ℕ). power_read line at (leb 48 c && leb c 57)) b.1
    ∙ ap (power_read line at)
    (is_digit (48 + r.first) (omega arith) (omega (arith, r.digit)))
    ∙ made_again power_cut_row cut_save ((s, calls), p) ((tt, omega (arith, fits)), pf) line at []
    tt e

pub power_placed : PlacedReader power_at
unfolding power_at
power_placed line at =
    faults.bind (spaced_server_at line at) _ (server_row.placed line at) (λ server.
    faults.choice (is_digit_at line (server.1 + 1)) _ _
    (made_placed power_cut_row cut_save line at) (made_placed saved_row step.Power line at))
