-- Calls with their credentials: what is read is spelled so, and what is spelled so is read.
use Rattle.std.proofs.Common.{◌≡◌, ℕ, ◌+◌, ◌^◌, ◌<◌, Bool, true, false, cond, eqb, inl, inr, List, [], ◌∷◌, ◌++◌, length, drop, Result, Ok, Err, refl, sym, ap, subst, ◌∙◌, append_assoc, arith}
use Rattle.std.specs.Prelude.{decimal, codes, nat_eq}
use Rattle.std.specs.List.{starts_with}
use Rattle.std.proofs.lemmas.Bool.{eqb-true, and_parts}
use Rattle.std.proofs.lemmas.Bool.Decides.{Decides-eqb}
use Rattle.std.proofs.lemmas.List.{length-append}
use Rattle.std.proofs.lemmas.Slice.Eq.{starts_is}
use Rattle.harp_types.specs.declared.call.Call.{Call}
use Rattle.harp_types.specs.declared.call.Call.TheVariants as call
use Rattle.harp_types.specs.declared.cred.Cred.{Cred}
use Rattle.harp_types.specs.declared.cred.TheConstants.{SUPERUSER}
use Rattle.text_spelling.specs.Text.{spaced, is_implied, told_text, cred_text, call_text}
use Rattle.text_spelling.specs.Fits.{CallFits, CredFits}
use Rattle.schedule_text.specs.declared.fault.TextFault.{TextFault}
use Rattle.schedule_text.specs.declared.fault.TextFault.TheVariants.{Grammar}
use Rattle.schedule_text.specs.Fields.{Read, ◌>>=◌, EndsWord, space_at, u32_at}
use Rattle.schedule_text.proofs.Places.{Spells, Spells-then, Spells-from, space_takes, space_again, drop_past, bind_ok, chosen, ok_is, read_of}
use Rattle.schedule_text.proofs.FieldLaws.{u32_field}
use Rattle.schedule_text.proofs.Faults.{PlacedReader}
use Rattle.schedule_text.proofs.Faults as faults
use Rattle.schedule_text.specs.Reading.{spaced_u32_at, is_told_at, cred_of, told_at, told_call_at, untold_call_at, asked_at}
use Rattle.schedule_text.proofs.Rows.{IsRow, dir_field, u32_row, stands, both_row, made_takes, made_again, made_placed}
use Rattle.schedule_text.proofs.CallLaws.{call_row}

-- ---- where a credential is told

-- a text that begins as a told credential does
abbrev pub begins_told : List ℕ → Bool
begins_told text = starts_with nat_eq text (codes " as")

told_here : (line : List ℕ) (at : ℕ) → is_told_at line at ≡ true
    → Spells line at (codes " as") (at + 3)
told_here line at told =
    let behind = (starts_is Decides-eqb (drop at line) (codes " as") (is_told_at line at) refl).0
    told in
    Spells-from line at (codes " as") (drop 3 (drop at line)) (at + 3) behind refl

-- no call's name begins with `as`
pub call_untold : (c : Call) (rest : List ℕ)
    → begins_told (spaced (call_text c) ++ rest) ≡ false
unfolding call_text
call_untold call.Null rest = refl
call_untold (call.GetAttr handle) rest = refl
call_untold (call.SetAttr handle attr) rest = refl
call_untold (call.Lookup dir name) rest = refl
call_untold (call.ReadLink handle) rest = refl
call_untold (call.Read handle offset count) rest = refl
call_untold (call.Write handle offset bytes) rest = refl
call_untold (call.Create dir name attr) rest = refl
call_untold (call.Remove dir name) rest = refl
call_untold (call.Rename dir name to_dir to_name) rest = refl
call_untold (call.Link handle dir name) rest = refl
call_untold (call.SymLink dir name text attr) rest = refl
call_untold (call.MkDir dir name attr) rest = refl
call_untold (call.RmDir dir name) rest = refl
call_untold (call.ReadDir dir cookie count) rest = refl
call_untold (call.StatFs handle) rest = refl

-- ---- the texts of credentials

implied_is : (cred : Cred) → is_implied cred ≡ true → cred ≡ SUPERUSER
implied_is cred implied =
    let p = and_parts (eqb cred.uid 0) (eqb cred.gid 0) implied in
    let uid = eqb-true cred.uid 0 p.0 in
    let gid = eqb-true cred.gid 0 p.1 in
    λ i. cred_of (uid i) (gid i)

implied_text : (cred : Cred) → is_implied cred ≡ true → cred_text cred ≡ []
unfolding cred_text
implied_text cred implied = ap (λ (b : Bool). cond b [] (told_text cred)) implied

told_is : (cred : Cred) → is_implied cred ≡ false → cred_text cred ≡ told_text cred
unfolding cred_text
told_is cred told = ap (λ (b : Bool). cond b [] (told_text cred)) told

-- a space stands first, or what follows
pub cred_ends : (cred : Cred) (rest : List ℕ) → EndsWord rest → EndsWord (cred_text cred ++ rest)
cred_ends cred rest ends = by (is_implied cred) refl
  where
    by : (b : Bool) → is_implied cred ≡ b → EndsWord (cred_text cred ++ rest)
    by true implied =
        subst (λ (l : List ℕ). EndsWord (l ++ rest)) (sym (implied_text cred implied)) ends
    by false told = subst (λ (l : List ℕ). EndsWord (l ++ rest)) (sym (told_is cred told)) refl

-- ---- a credential that is told

-- the user and the group, behind ` as`
abbrev numbers_text : Cred → List ℕ
numbers_text cred = spaced (decimal cred.uid) ++ spaced (decimal cred.gid)

-- what is read once the user and the group are
abbrev told : Cred → ℕ → ℕ → Read Cred
told cred from next = cond (is_implied cred) (Err (Grammar from)) (read_of cred next)

abbrev group_at : List ℕ → ℕ × ℕ → Read Cred
group_at line uid =
    space_at line uid.1 >>= λ from. u32_at line from
    >>= λ gid. told (cred_of uid.0 gid.0) from gid.1

abbrev IsTold : Cred → Type 0
IsTold cred = CredFits cred × (is_implied cred ≡ false)

told_spells : (line : List ℕ) (at from : ℕ) (cred : Cred) (next : ℕ) (x : Cred × ℕ)
    → Spells line at (numbers_text cred) next → CredFits cred → told cred from next ≡ Ok x
    → Spells line at (numbers_text x.0) x.1 × IsTold x.0
told_spells line at from cred next x both fits e =
    elim (chosen (is_implied cred) (Err (Grammar from)) (read_of cred next) (Ok x) e) [
      | inl both_zero ↦ absurd (not_read (Grammar from) x both_zero.1)
      | inr given ↦
          subst (λ (y : Cred × ℕ). Spells line at (numbers_text y.0) y.1 × IsTold y.0)
          (ok_is (cred, next) x given.1) (both, (fits, given.0))
    ]
  where
    not_read : (f : TextFault) (y : Cred × ℕ) → Err f ≡ Ok y → ⊥
    not_read f y e = cc

told_takes : (line : List ℕ) (at : ℕ) (x : Cred × ℕ) → told_at line at ≡ Ok x
    → Spells line at (numbers_text x.0) x.1 × IsTold x.0
unfolding told_at
told_takes line at x e =
    let u = bind_ok (spaced_u32_at line at) (group_at line) x e in
    let f = bind_ok (space_at line u.0.1)
    (λ from. u32_at line from >>= λ gid. told (cred_of u.0.0 gid.0) from gid.1) x u.2 in
    let g = bind_ok (u32_at line f.0) (λ gid. told (cred_of u.0.0 gid.0) f.0 gid.1) x f.2 in
    let user = dir_field.takes line at u.0 u.1 in
    let group = u32_field.takes line f.0 g.0 g.1 in
    let behind = Spells-then line u.0.1 (32 ∷ []) f.0 (decimal g.0.0) g.0.1
    (space_takes line u.0.1 f.0 f.1) group.0 in
    let both = Spells-then line at (spaced (decimal u.0.0)) u.0.1 (spaced (decimal g.0.0)) g.0.1
    user.0 behind in
    told_spells line at f.0 (cred_of u.0.0 g.0.0) g.0.1 x both (user.1, group.1) g.2

told_again : (line : List ℕ) (at : ℕ) (cred : Cred) (rest : List ℕ) → IsTold cred → EndsWord rest
    → drop at line ≡ numbers_text cred ++ rest
    → told_at line at ≡ Ok (cred, at + length (numbers_text cred))
unfolding told_at
told_again line at cred rest fits ends e =
    let user = spaced (decimal cred.uid) in
    let group = decimal cred.gid in
    let front : drop at line ≡ user ++ (32 ∷ (group ++ rest)) =
    e ∙ append_assoc user (spaced group) rest in
    let one = stands spaced_u32_at (λ n. spaced (decimal n)) (λ n. n < 2 ^ 32) dir_field line at
    cred.uid
    (32 ∷ (group ++ rest)) fits.0.0 refl front in
    let mid = at + length user in
    let past = drop_past line mid (32 ∷ []) (group ++ rest) one.1 in
    let two = u32_field.again line (mid + 1) cred.gid rest fits.0.1 ends past in
    let end : mid + 1 + length group ≡ at + length (user ++ spaced group) = omega
    (arith, length-append user (spaced group)) in
    ap (λ (r : Read ℕ). r >>= group_at line) one.0
    ∙ ap (λ (r : Result ℕ TextFault). r >>= λ from. u32_at line from >>= λ gid. told
    (cred_of cred.uid gid.0) from gid.1) (space_again line mid (group ++ rest) one.1)
    ∙ ap (λ (r : Read ℕ). r >>= λ gid. told (cred_of cred.uid gid.0) (mid + 1) gid.1) two
    ∙ ap (λ (b : Bool). cond b (Err (Grammar (mid + 1))) (read_of cred (mid + 1 + length group)))
    fits.1
    ∙ ap (read_of cred) end

told_placed : PlacedReader told_at
unfolding told_at
told_placed line at =
    faults.bind (spaced_u32_at line at) _ (u32_row.placed line at) (λ uid.
    faults.bind (space_at line uid.1) _ (faults.space line uid.1) (λ from.
    faults.bind (u32_at line from) _ (faults.number 10 4294967295 line from) (λ gid.
    faults.choice (is_implied (cred_of uid.0 gid.0)) _ _ tt tt)))

-- ---- a credential and a call

-- what stands before and in a call
abbrev pub asked_text : Cred × Call → List ℕ
asked_text x = cred_text x.0 ++ spaced (call_text x.1)

abbrev pub AskedFits : Cred × Call → Type 0
AskedFits x = CredFits x.0 × CallFits x.1

told_row : IsRow told_at numbers_text IsTold
told_row = record {
  field = record { takes = told_takes; again = told_again };
  placed = told_placed;
  apart = λ cred rest. refl;
}

both_told : IsRow told_call_at (λ x. numbers_text x.0 ++ spaced (call_text x.1))
    (λ x. IsTold x.0 × CallFits x.1)
both_told = both_row told_row (call_row true)

-- the two texts of a credential and a call
told_whole : (x : Cred × Call) → is_implied x.0 ≡ false
    → codes " as" ++ (numbers_text x.0 ++ spaced (call_text x.1)) ≡ asked_text x
told_whole x told = ap (λ (l : List ℕ). l ++ spaced (call_text x.1)) (sym (told_is x.0 told))

untold_whole : (cred : Cred) (c : Call) → is_implied cred ≡ true
    → asked_text (cred, c) ≡ spaced (call_text c)
untold_whole cred c implied =
    ap (λ (l : List ℕ). l ++ spaced (call_text c)) (implied_text cred implied)

abbrev superusers : Call → Cred × Call
superusers c = (SUPERUSER, c)

abbrev asked_read : List ℕ → ℕ → Bool → Read (Cred × Call)
asked_read line at told = cond told (told_call_at line (at + 3)) (untold_call_at line at)

asked_takes : (line : List ℕ) (at : ℕ) (x : (Cred × Call) × ℕ) → asked_at line at ≡ Ok x
    → Spells line at (asked_text x.0) x.1 × AskedFits x.0
unfolding asked_at
asked_takes line at x e =
    elim (chosen (is_told_at line at) (told_call_at line (at + 3)) (untold_call_at line at) (Ok x) e) [
      | inl told ↦
          let t = both_told.field.takes line (at + 3) x told.1 in
          let here = Spells-then line at (codes " as") (at + 3)
          (numbers_text x.0.0 ++ spaced (call_text x.0.1)) x.1 (told_here line at told.0) t.0 in (
            subst (λ (l : List ℕ). Spells line at l x.1) (told_whole x.0 t.1.0.1) here,
            (t.1.0.0, t.1.1),
          )
      | inr untold ↦
          made_takes (call_row false) superusers asked_text AskedFits
          (λ c fits. (untold_whole SUPERUSER c refl, ((omega arith, omega arith), fits)))
          line at x untold.1
    ]

asked_again : (line : List ℕ) (at : ℕ) (x : Cred × Call) (rest : List ℕ) → AskedFits x
    → EndsWord rest → drop at line ≡ asked_text x ++ rest
    → asked_at line at ≡ Ok (x, at + length (asked_text x))
unfolding asked_at
asked_again line at x rest fits ends e = by (is_implied x.0) refl
  where
    called : List ℕ
    called = spaced (call_text x.1)

    by : (b : Bool) → is_implied x.0 ≡ b
        → asked_read line at (is_told_at line at) ≡ Ok (x, at + length (asked_text x))
    by true implied =
        let text = untold_whole x.0 x.1 implied in
        let here : drop at line ≡ called ++ rest = e ∙ ap (λ (l : List ℕ). l ++ rest) text in
        let end : at + length called ≡ at + length (asked_text x) = omega (arith, ap length text) in
        ap (asked_read line at) (ap begins_told here ∙ call_untold x.1 rest)
        ∙ made_again (call_row false) superusers x.1 fits.1 line at rest ends here
        ∙ (λ i. read_of (sym (implied_is x.0 implied) i, x.1) (end i))
    by false given =
        let behind = numbers_text x.0 ++ called in
        let text = told_whole x given in
        let here : drop at line ≡ codes " as" ++ (behind ++ rest) =
        e ∙ ap (λ (l : List ℕ). l ++ rest) (sym text) in
        let stands_told =
        (starts_is Decides-eqb (drop at line) (codes " as") (is_told_at line at) refl).1
        (behind ++ rest) here in
        let past = drop_past line at (codes " as") (behind ++ rest) here in
        let end : at + 3 + length behind ≡ at + length (asked_text x) = omega
        (arith, ap length text) in
        ap (asked_read line at) stands_told
        ∙ both_told.field.again line (at + 3) x rest ((fits.0, given), fits.1) ends past
        ∙ ap (read_of x) end

asked_apart : (x : Cred × Call) (rest : List ℕ) → EndsWord (asked_text x ++ rest)
asked_apart x rest =
    subst EndsWord (sym (append_assoc (cred_text x.0) (spaced (call_text x.1)) rest))
    (cred_ends x.0 (spaced (call_text x.1) ++ rest) refl)

asked_placed : PlacedReader asked_at
unfolding asked_at
asked_placed line at =
    faults.choice (is_told_at line at) _ _ (both_told.placed line (at + 3))
    (made_placed (call_row false) superusers line at)

pub asked_row : IsRow asked_at asked_text AskedFits
asked_row = record {
  field = record { takes = asked_takes; again = asked_again };
  placed = asked_placed;
  apart = asked_apart;
}
