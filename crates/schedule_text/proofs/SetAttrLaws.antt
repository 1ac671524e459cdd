-- One to six fields of SETATTR: what is read is spelled so, and what is spelled so is read.
use Rattle.std.proofs.Common.{◌≡◌, ℕ, ◌+◌, ◌^◌, ◌<◌, ◌⊎◌, inl, inr, Bool, true, false, cond, eqb, List, [], ◌∷◌, ◌++◌, length, get_or, drop, Ok, Err, refl, sym, ap, subst, ◌∙◌, append_assoc, arith}
use Rattle.std.specs.Prelude.{◌==◌, ◌||◌, not}
use Rattle.std.proofs.lemmas.Bool.{eqb-true, eqb-false, eq-eqb, ne_eqb}
use Rattle.std.proofs.lemmas.List.{length-append, append-nil}
use Rattle.harp_types.specs.declared.attr.Time.{Time}
use Rattle.harp_types.specs.declared.attr.SetAttr.{SetAttr}
use Rattle.schedule_text.specs.declared.fault.TextFault.TheVariants.{Grammar}
use Rattle.text_spelling.specs.Text.{left, is_left_time, number_field, mode_field, time_field, later, mtime_on, atime_on, size_on, gid_on, uid_on, set_attr_text}
use Rattle.text_spelling.specs.Fits.{TimeFits, SetAttrFits}
use Rattle.schedule_text.specs.Fields.{EndsWord, Reader, Read, ◌>>=◌, left_time, comma_at, later_at, later_number_at, number_field_at, mode_field_at, time_at, time_field_at, set_attr_at}
use Rattle.schedule_text.proofs.FieldLaws.{StopsField, IsPart, number_part, mode_part, time_part, last_part, left_time_is, IsGivenTime}
use Rattle.schedule_text.proofs.Places.{Spells, Spells-then, Spells-byte, IsField, head_at, drop_past, bind_ok, chosen, ok_is, read_of}

-- ---- what is read is spelled so

abbrev Takes : {A : Type 0} → Reader A → (A → List ℕ) → (A → Type 0) → Type 0
Takes {A} r spell Fits = (line : List ℕ) (at : ℕ) (x : A × ℕ) → r line at ≡ Ok x
    → Spells line at (spell x.0) x.1 × Fits x.0

-- the fields from here on: their text, whether one of them is given, and whether one is due
pub record Tail (line : List ℕ) (due : Bool) (at : ℕ) (given : Bool) (text : List ℕ) (end : ℕ)
    : Type 0 where
  pub spelled : Spells line at text end
  pub empty : given ≡ false → text ≡ []
  pub owed : due ≡ true → given ≡ true
  pub absent : (get_or line at 0 ≡ 44 → ⊥) → given ≡ false

comma_takes : (due : Bool) (line : List ℕ) (at : ℕ) (c : Bool) → comma_at due line at ≡ Ok c
    → ((get_or line at 0 ≡ 44) × (c ≡ true))
    ⊎ ((get_or line at 0 ≡ 44 → ⊥) × (due ≡ false) × (c ≡ false))
comma_takes due line at c e =
    elim (chosen (eqb (get_or line at 0) 44) (Ok true) (cond due (Err (Grammar at)) (Ok false))
    (Ok c) e) [
      | inl comma ↦ inl (eqb-true _ 44 comma.0, sym (ok_is true c comma.1))
      | inr other ↦ let n = no_due due other.1 in inr (eqb-false _ 44 other.0, n.0, n.1)
    ]
  where
    no_due : (due : Bool) → cond due (Err (Grammar at)) (Ok false) ≡ Ok c → (due ≡ false)
        × (c ≡ false)
    no_due true e = absurd cc
    no_due false e = (refl, sym (ok_is false c e))

true_false : (b : Bool) → b ≡ true → b ≡ false → ⊥
true_false b t f = cc

or_owed : (is_left given : Bool) → (is_left ≡ true → given ≡ true) → (not is_left || given) ≡ true
or_owed true given owed = owed refl
or_owed false given owed = refl

no_or : (is_left given : Bool) → is_left ≡ true → given ≡ false → (not is_left || given) ≡ false
no_or is_left given l g = ap (λ (b : Bool). not b || given) l ∙ g

module _ {A : Type 0} (r : Reader A) (spell : A → List ℕ) (Fits : A → Type 0) (is_left : A → Bool)
    (none : A) where
  abbrev field_of : List ℕ → ℕ → Bool → Read (A × Bool)
  field_of line at comma =
      cond comma (r line (at + 1) >>= λ y. Ok ((y.0, is_left y.0), y.1)) (Ok ((none, false), at))

  pub later_takes : Takes r spell Fits → is_left none ≡ true → Fits none
      → (due : Bool) (line : List ℕ) (at : ℕ) (x : (A × Bool) × ℕ) (given : Bool) (text : List ℕ)
      (end : ℕ)
      → later_at r is_left none due line at ≡ Ok x → Tail line x.0.1 x.1 given text end
      → Tail line due at (not (is_left x.0.0) || given)
      (later (not (is_left x.0.0) || given) (spell x.0.0) ++ text) end × Fits x.0.0
  unfolding later
  later_takes takes none-left none-fits due line at x given text end e tail =
      let c = bind_ok (comma_at due line at) (field_of line at) x e in
      elim (comma_takes due line at c.0 c.1) [
        | inl here ↦
            let inside : (r line (at + 1) >>= λ y. Ok ((y.0, is_left y.0), y.1)) ≡ Ok x =
            ap (field_of line at) (sym here.1) ∙ c.2 in
            let y = bind_ok (r line (at + 1)) (λ y. Ok ((y.0, is_left y.0), y.1)) x inside in
            let t = takes line (at + 1) y.0 y.1 in
            let is = ok_is ((y.0.0, is_left y.0.0), y.0.1) x y.2 in
            let owed : (not (is_left y.0.0) || given) ≡ true =
            or_owed (is_left y.0.0) given
            (λ h. tail.owed (ap (λ (z : (A × Bool) × ℕ). z.0.1) (sym is) ∙ h)) in
            let comma = Spells-byte line at 44 here.0 (omega arith) in
            let field = Spells-then line at (44 ∷ []) (at + 1) (spell y.0.0) y.0.1 comma t.0 in
            let rest : Spells line y.0.1 text end =
            subst (λ (n : ℕ). Spells line n text end)
            (ap (λ (z : (A × Bool) × ℕ). z.1) (sym is)) tail.spelled in
            let all = Spells-then line at (44 ∷ spell y.0.0) y.0.1 text end field rest in
            let written : 44 ∷ spell y.0.0 ≡ later (not (is_left y.0.0) || given) (spell y.0.0) =
            ap (λ (b : Bool). cond b (44 ∷ spell y.0.0) []) (sym owed) in
            subst (λ (z : (A × Bool) × ℕ). Tail line due at (not (is_left z.0.0) || given)
            (later (not (is_left z.0.0) || given) (spell z.0.0) ++ text) end × Fits z.0.0) is (
              record {
                spelled = subst (λ (l : List ℕ). Spells line at (l ++ text) end) written all;
                empty = λ g. absurd (true_false (not (is_left y.0.0) || given) owed g);
                owed = λ _. owed;
                absent = λ no_comma. absurd (no_comma here.0);
              },
              t.1,
            )
        | inr other ↦
            let inside : Ok ((none, false), at) ≡ Ok x =
            ap (field_of line at) (sym other.2) ∙ c.2 in
            let is = ok_is ((none, false), at) x inside in
            let rest : Spells line at text end =
            subst (λ (n : ℕ). Spells line n text end)
            (ap (λ (z : (A × Bool) × ℕ). z.1) (sym is)) tail.spelled in
            let nothing : given ≡ false =
            tail.absent
            (subst (λ (n : ℕ). get_or line n 0 ≡ 44 → ⊥) (ap (λ (z : (A × Bool) × ℕ). z.1) is)
            other.0) in
            let unset = no_or (is_left none) given none-left nothing in
            let written : [] ≡ later (not (is_left none) || given) (spell none) =
            ap (λ (b : Bool). cond b (44 ∷ spell none) []) (sym unset) in
            subst (λ (z : (A × Bool) × ℕ). Tail line due at (not (is_left z.0.0) || given)
            (later (not (is_left z.0.0) || given) (spell z.0.0) ++ text) end × Fits z.0.0) is (
              record {
                spelled = subst (λ (l : List ℕ). Spells line at (l ++ text) end) written rest;
                empty = λ g. ap (λ (l : List ℕ). l ++ text) (sym written) ∙ tail.empty nothing;
                owed = λ d. absurd (true_false due d other.1);
                absent = λ _. unset;
              },
              none-fits,
            )
      ]

-- ---- what is spelled so is read

pub stops_later : (given : Bool) (field text rest : List ℕ) → StopsField (text ++ rest)
    → StopsField ((later given field ++ text) ++ rest)
unfolding later
stops_later true field text rest stops = inr refl
stops_later false field text rest stops = stops

ends_stop : (rest : List ℕ) → EndsWord rest → StopsField rest
ends_stop [] ends = tt
ends_stop (b ∷ rest) ends = inl ends

no_comma : (rest : List ℕ) → EndsWord rest → get_or rest 0 0 ≡ 44 → ⊥
no_comma [] ends e = absurd (omega arith)
no_comma (b ∷ rest) ends e = absurd (omega arith)

owed_next : (is_left given : Bool) → (not is_left || given) ≡ true → is_left ≡ true → given ≡ true
owed_next true given on h = on
owed_next false given on h = absurd cc

both_off : (is_left given : Bool) → (not is_left || given) ≡ false → (is_left ≡ true)
    × (given ≡ false)
both_off true given off = (refl, off)
both_off false given off = absurd cc

no_owing : (due given : Bool) → (due ≡ true → given ≡ true) → given ≡ false → due ≡ false
no_owing true given owed off = absurd (true_false given (owed refl) off)
no_owing false given owed off = refl

-- the fields from here on stand, and the last of them isn't owed
pub record Stands (line : List ℕ) (due : Bool) (at : ℕ) (given : Bool) (text rest : List ℕ)
    : Type 0 where
  pub here : drop at line ≡ text ++ rest
  pub empty : given ≡ false → text ≡ []
  pub owed : due ≡ true → given ≡ true

module _ {A : Type 0} (r : Reader A) (spell : A → List ℕ) (Fits : A → Type 0) (is_left : A → Bool)
    (none : A) where
  abbrev field_on : List ℕ → ℕ → Bool → Read (A × Bool)
  field_on line at comma =
      cond comma (r line (at + 1) >>= λ y. Ok ((y.0, is_left y.0), y.1)) (Ok ((none, false), at))

  -- the field is read, and those behind it stand
  pub record Reread (line : List ℕ) (due : Bool) (at : ℕ) (v : A) (given : Bool)
      (text rest : List ℕ) : Type 0 where
    pub next_due : Bool
    pub next : ℕ
    pub reads : later_at r is_left none due line at ≡ Ok ((v, next_due), next)
    pub stands : Stands line next_due next given text rest
    pub next_is : next ≡ at + length (later (not (is_left v) || given) (spell v))

  pub later_again : IsPart r spell Fits → ((v : A) → is_left v ≡ true → v ≡ none)
      → (due : Bool) (line : List ℕ) (at : ℕ) (v : A) (given : Bool) (text rest : List ℕ)
      → ((not (is_left v) || given) ≡ true → Fits v) → EndsWord rest → StopsField (text ++ rest)
      → (given ≡ false → text ≡ [])
      → Stands line due at (not (is_left v) || given)
      (later (not (is_left v) || given) (spell v) ++ text) rest
      → Reread line due at v given text rest
  unfolding later
  later_again part left_is due line at v given text rest fits ends stops empty stands =
      by (not (is_left v) || given) refl
    where
      with_comma : (not (is_left v) || given) ≡ true → Reread line due at v given text rest
      with_comma on =
          let front : drop at line ≡ (44 ∷ spell v) ++ (text ++ rest) =
          stands.here ∙ ap (λ (b : Bool). (cond b (44 ∷ spell v) [] ++ text) ++ rest) on
          ∙ append_assoc (44 ∷ spell v) text rest in
          let byte = eq-eqb (get_or line at 0) 44
          (head_at line at ((44 ∷ spell v) ++ (text ++ rest)) front) in
          let behind = drop_past line at (44 ∷ []) (spell v ++ (text ++ rest)) front in
          let read = part.again line (at + 1) v (text ++ rest) (fits on) stops behind in
          record {
            next_due = is_left v;
            next = at + 1 + length (spell v);
            reads = ap (λ (b : Bool). cond b (Ok true) (cond due (Err (Grammar at)) (Ok false))
                >>= field_on line at) byte
                ∙ ap (λ (y : Read A). y >>= λ z. Ok ((z.0, is_left z.0), z.1)) read;
            stands = record {
              here = drop_past line (at + 1) (spell v) (text ++ rest) behind;
              empty = empty;
              owed = λ h. owed_next (is_left v) given on h;
            };
            next_is = omega (arith, ap (λ (b : Bool). length (cond b (44 ∷ spell v) [])) on);
          }

      without : (not (is_left v) || given) ≡ false → Reread line due at v given text rest
      without off =
          let parts = both_off (is_left v) given off in
          let nothing = empty parts.1 in
          let here : drop at line ≡ text ++ rest =
          stands.here ∙ ap (λ (b : Bool). (cond b (44 ∷ spell v) [] ++ text) ++ rest) off in
          let byte : eqb (get_or line at 0) 44 ≡ false =
          ne_eqb _ 44
          (λ z. no_comma rest ends
          (sym (head_at line at rest (here ∙ ap (λ (l : List ℕ). l ++ rest) nothing)) ∙ z)) in
          let not_due = no_owing due (not (is_left v) || given) stands.owed off in
          record {
            next_due = false;
            next = at;
            reads = ap (λ (b : Bool). cond b (Ok true) (cond due (Err (Grammar at)) (Ok false))
                >>= field_on line at) byte
                ∙ ap (λ (b : Bool). cond b (Err (Grammar at)) (Ok false) >>= field_on line at)
                not_due ∙ ap (λ (w : A). read_of (w, false) at) (sym (left_is v parts.0));
            stands = record { here = here; empty = empty; owed = λ h. absurd cc };
            next_is = omega (arith, ap (λ (b : Bool). length (cond b (44 ∷ spell v) [])) off);
          }

      by : (on : Bool) → (not (is_left v) || given) ≡ on → Reread line due at v given text rest
      by true on = with_comma on
      by false off = without off

-- ---- all six fields

abbrev attr_from : ℕ → ℕ → ℕ → ℕ → Time → Time → SetAttr
attr_from mode uid gid size atime mtime =
    record { mode = mode; uid = uid; gid = gid; size = size; atime = atime; mtime = mtime }

abbrev with_mtime : ℕ → ℕ → ℕ → ℕ → Time → (Time × Bool) × ℕ → Read SetAttr
with_mtime mode uid gid size atime t = Ok (attr_from mode uid gid size atime t.0.0, t.1)

abbrev with_atime : List ℕ → ℕ → ℕ → ℕ → ℕ → (Time × Bool) × ℕ → Read SetAttr
with_atime line mode uid gid size a = later_at time_at is_left_time left_time a.0.1 line a.1
    >>= with_mtime mode uid gid size a.0.0

abbrev with_size : List ℕ → ℕ → ℕ → ℕ → (ℕ × Bool) × ℕ → Read SetAttr
with_size line mode uid gid s = later_at time_field_at is_left_time left_time s.0.1 line s.1
    >>= with_atime line mode uid gid s.0.0

abbrev with_gid : List ℕ → ℕ → ℕ → (ℕ × Bool) × ℕ → Read SetAttr
with_gid line mode uid g = later_number_at g.0.1 line g.1 >>= with_size line mode uid g.0.0

abbrev with_uid : List ℕ → ℕ → (ℕ × Bool) × ℕ → Read SetAttr
with_uid line mode u = later_number_at u.0.1 line u.1 >>= with_gid line mode u.0.0

abbrev with_mode : List ℕ → ℕ × ℕ → Read SetAttr
with_mode line m = later_number_at false line m.1 >>= with_uid line m.0

abbrev is_left_number : ℕ → Bool
is_left_number n = n == left

-- which fields are written, where last says whether the last one is
abbrev atime_flag : SetAttr → Bool → Bool
atime_flag a last = not (is_left_time a.atime) || last

abbrev size_flag : SetAttr → Bool → Bool
size_flag a last = not (a.size == left) || atime_flag a last

abbrev gid_flag : SetAttr → Bool → Bool
gid_flag a last = not (a.gid == left) || size_flag a last

abbrev uid_flag : SetAttr → Bool → Bool
uid_flag a last = not (a.uid == left) || gid_flag a last

-- the text behind the mode
abbrev mtime_with : SetAttr → Bool → List ℕ
mtime_with a last = later last (time_field a.mtime) ++ []

abbrev atime_with : SetAttr → Bool → List ℕ
atime_with a last = later (atime_flag a last) (time_field a.atime) ++ mtime_with a last

abbrev size_with : SetAttr → Bool → List ℕ
size_with a last = later (size_flag a last) (number_field a.size) ++ atime_with a last

abbrev gid_with : SetAttr → Bool → List ℕ
gid_with a last = later (gid_flag a last) (number_field a.gid) ++ size_with a last

abbrev uid_with : SetAttr → Bool → List ℕ
uid_with a last = later (uid_flag a last) (number_field a.uid) ++ gid_with a last

or_false : (b : Bool) → (b || false) ≡ b
or_false true = refl
or_false false = refl

regroup : (a b c d e f : List ℕ) → a
    ++ (b ++ (c ++ (d ++ (e ++ (f ++ []))))) ≡ ((((a ++ b) ++ c) ++ d) ++ e) ++ f
regroup a b c d e f = simp (append_assoc, append-nil)

regrouped : (a : SetAttr) → mode_field a.mode ++ uid_with a (mtime_on a || false) ≡ set_attr_text a
unfolding set_attr_text
regrouped a =
    ap (λ (last : Bool). mode_field a.mode ++ uid_with a last) (or_false (mtime_on a))
    ∙ regroup (mode_field a.mode) (later (uid_on a) (number_field a.uid))
    (later (gid_on a) (number_field a.gid)) (later (size_on a) (number_field a.size))
    (later (atime_on a) (time_field a.atime)) (later (mtime_on a) (time_field a.mtime))

last_takes : Takes time_at time_field TimeFits
last_takes line at x e = let t = last_part.takes line at x e in (t.0, t.1.0)

last_flag : (due : Bool) (line : List ℕ) (at : ℕ) (x : (Time × Bool) × ℕ)
    → later_at time_at is_left_time left_time due line at ≡ Ok x → x.0.1 ≡ false
last_flag due line at x e =
    let c = bind_ok (comma_at due line at)
    (field_of time_at time_field TimeFits is_left_time left_time line at) x e in
    by c.0 c.2
  where
    by : (c : Bool) → field_of time_at time_field TimeFits is_left_time left_time line at c ≡ Ok x
        → x.0.1 ≡ false
    by true inside =
        let y = bind_ok (time_at line (at + 1)) (λ y. Ok ((y.0, is_left_time y.0), y.1)) x inside in
        let t = last_part.takes line (at + 1) y.0 y.1 in
        ap (λ (z : (Time × Bool) × ℕ). z.0.1)
        (sym (ok_is ((y.0.0, is_left_time y.0.0), y.0.1) x y.2)) ∙ t.1.1
    by false inside =
        ap (λ (z : (Time × Bool) × ℕ). z.0.1) (sym (ok_is ((left_time, false), at) x inside))

spells_nothing : (line : List ℕ) (at : ℕ) → Spells line at [] at
spells_nothing line at = record { parts = refl; length_is = omega arith }

left_fits : TimeFits left_time
left_fits = (omega arith, omega arith)

set_attr_takes : Takes set_attr_at set_attr_text SetAttrFits
unfolding set_attr_at
set_attr_takes line at x e =
    let m = bind_ok (mode_field_at line at) (with_mode line) x e in
    let u = bind_ok (later_number_at false line m.0.1) (with_uid line m.0.0) x m.2 in
    let g = bind_ok (later_number_at u.0.0.1 line u.0.1) (with_gid line m.0.0 u.0.0.0) x u.2 in
    let s = bind_ok (later_number_at g.0.0.1 line g.0.1) (with_size line m.0.0 u.0.0.0 g.0.0.0) x
    g.2 in
    let a = bind_ok (later_at time_field_at is_left_time left_time s.0.0.1 line s.0.1)
    (with_atime line m.0.0 u.0.0.0 g.0.0.0 s.0.0.0) x s.2 in
    let t = bind_ok (later_at time_at is_left_time left_time a.0.0.1 line a.0.1)
    (with_mtime m.0.0 u.0.0.0 g.0.0.0 s.0.0.0 a.0.0.0) x a.2 in
    let v = attr_from m.0.0 u.0.0.0 g.0.0.0 s.0.0.0 a.0.0.0 t.0.0.0 in
    let end = t.0.1 in
    let none : Tail line t.0.0.1 t.0.1 false [] end = record {
      spelled = spells_nothing line end;
      empty = λ _. refl;
      owed = λ h. absurd (true_false t.0.0.1 h (last_flag a.0.0.1 line a.0.1 t.0 t.1));
      absent = λ _. refl;
    } in
    let five = later_takes time_at time_field TimeFits is_left_time left_time last_takes refl
    left_fits a.0.0.1 line a.0.1 t.0 false [] end t.1 none in
    let four = later_takes time_field_at time_field TimeFits is_left_time left_time time_part.takes
    refl left_fits s.0.0.1 line s.0.1 a.0 _ _ end a.1 five.0 in
    let three = later_takes number_field_at number_field (λ n. n < 2 ^ 32) is_left_number left
    number_part.takes refl (omega arith) g.0.0.1 line g.0.1 s.0 _ _ end s.1 four.0 in
    let two = later_takes number_field_at number_field (λ n. n < 2 ^ 32) is_left_number left
    number_part.takes refl (omega arith) u.0.0.1 line u.0.1 g.0 _ _ end g.1 three.0 in
    let one = later_takes number_field_at number_field (λ n. n < 2 ^ 32) is_left_number left
    number_part.takes refl (omega arith) false line m.0.1 u.0 _ _ end u.1 two.0 in
    let mode = mode_part.takes line at m.0 m.1 in
    let whole = Spells-then line at (mode_field m.0.0) m.0.1 (uid_with v (mtime_on v || false)) end
    mode.0 one.0.spelled in
    let text : Spells line at (set_attr_text v) end =
    subst (λ (l : List ℕ). Spells line at l end) (regrouped v) whole in
    let fits : SetAttrFits v =
    record {
      mode = mode.1;
      uid = one.1;
      gid = two.1;
      size = three.1;
      atime = four.1;
      mtime = five.1;
    } in
    subst (λ (z : SetAttr × ℕ). Spells line at (set_attr_text z.0) z.1 × SetAttrFits z.0)
    (ok_is (v, end) x t.2) (text, fits)

empty_later : (is_left given : Bool) (field text : List ℕ) → (given ≡ false → text ≡ [])
    → (not is_left || given) ≡ false → later (not is_left || given) field ++ text ≡ []
unfolding later
empty_later is_left given field text empty off =
    ap (λ (b : Bool). cond b (44 ∷ field) [] ++ text) off ∙ empty (both_off is_left given off).1

number_is : (n : ℕ) → is_left_number n ≡ true → n ≡ left
number_is n h = eqb-true n left h

given_fits : (t : Time) → TimeFits t → (not (is_left_time t) || false) ≡ true → IsGivenTime t
given_fits t fits on = (fits, by (is_left_time t) refl on)
  where
    by : (b : Bool) → is_left_time t ≡ b → (not b || false) ≡ true → is_left_time t ≡ false
    by true is on = absurd cc
    by false is on = is

set_attr_again : (line : List ℕ) (at : ℕ) (a : SetAttr) (rest : List ℕ) → SetAttrFits a
    → EndsWord rest → drop at line ≡ set_attr_text a ++ rest
    → set_attr_at line at ≡ Ok (a, at + length (set_attr_text a))
unfolding set_attr_at
set_attr_again line at a rest fits ends e =
    let last = mtime_on a || false in
    let t5 = mtime_with a last in
    let stops0 = ends_stop rest ends in
    let stops5 : StopsField (t5 ++ rest) = stops_later last (time_field a.mtime) [] rest stops0 in
    let stops4 : StopsField (atime_with a last ++ rest) =
    stops_later (atime_flag a last) (time_field a.atime) t5 rest stops5 in
    let stops3 : StopsField (size_with a last ++ rest) =
    stops_later (size_flag a last) (number_field a.size) (atime_with a last) rest stops4 in
    let stops2 : StopsField (gid_with a last ++ rest) =
    stops_later (gid_flag a last) (number_field a.gid) (size_with a last) rest stops3 in
    let stops1 : StopsField (uid_with a last ++ rest) =
    stops_later (uid_flag a last) (number_field a.uid) (gid_with a last) rest stops2 in
    let empty5 : last ≡ false → t5 ≡ [] =
    empty_later (is_left_time a.mtime) false (time_field a.mtime) [] (λ _. refl) in
    let empty4 : atime_flag a last ≡ false → atime_with a last ≡ [] =
    empty_later (is_left_time a.atime) last (time_field a.atime) t5 empty5 in
    let empty3 : size_flag a last ≡ false → size_with a last ≡ [] =
    empty_later (a.size == left) (atime_flag a last) (number_field a.size) (atime_with a last)
    empty4 in
    let empty2 : gid_flag a last ≡ false → gid_with a last ≡ [] =
    empty_later (a.gid == left) (size_flag a last) (number_field a.gid) (size_with a last)
    empty3 in
    let empty1 : uid_flag a last ≡ false → uid_with a last ≡ [] =
    empty_later (a.uid == left) (gid_flag a last) (number_field a.uid) (gid_with a last)
    empty2 in
    let text = mode_field a.mode in
    let front : drop at line ≡ text ++ (uid_with a last ++ rest) =
    e ∙ ap (λ (l : List ℕ). l ++ rest) (sym (regrouped a))
    ∙ append_assoc text (uid_with a last) rest in
    let mode = mode_part.again line at a.mode (uid_with a last ++ rest) fits.mode stops1 front in
    let begin = at + length text in
    let stands1 : Stands line false begin (uid_flag a last) (uid_with a last) rest =
    record {
      here = drop_past line at text (uid_with a last ++ rest) front;
      empty = empty1;
      owed = λ h. absurd cc;
    } in
    let one = later_again number_field_at number_field (λ n. n < 2 ^ 32) is_left_number left
    number_part number_is false line begin a.uid (gid_flag a last) (gid_with a last) rest
    (λ _. fits.uid) ends stops2 empty2 stands1 in
    let two = later_again number_field_at number_field (λ n. n < 2 ^ 32) is_left_number left
    number_part number_is one.next_due line one.next a.gid (size_flag a last) (size_with a last)
    rest (λ _. fits.gid) ends stops3 empty3 one.stands in
    let three = later_again number_field_at number_field (λ n. n < 2 ^ 32) is_left_number left
    number_part number_is two.next_due line two.next a.size (atime_flag a last)
    (atime_with a last) rest (λ _. fits.size) ends stops4 empty4 two.stands in
    let four = later_again time_field_at time_field TimeFits is_left_time left_time time_part
    left_time_is three.next_due line three.next a.atime last t5 rest (λ _. fits.atime) ends
    stops5 empty5 three.stands in
    let five = later_again time_at time_field IsGivenTime is_left_time left_time last_part
    left_time_is four.next_due line four.next a.mtime false [] rest
    (given_fits a.mtime fits.mtime) ends stops0 (λ _. refl) four.stands in
    let len : five.next ≡ at + length (set_attr_text a) = omega (
      arith,
      one.next_is,
      two.next_is,
      three.next_is,
      four.next_is,
      five.next_is,
      ap length (regrouped a),
      length-append text (uid_with a last),
      length-append (later (uid_flag a last) (number_field a.uid)) (gid_with a last),
      length-append (later (gid_flag a last) (number_field a.gid)) (size_with a last),
      length-append (later (size_flag a last) (number_field a.size)) (atime_with a last),
      length-append (later (atime_flag a last) (time_field a.atime)) t5,
      length-append (later last (time_field a.mtime)) [],
    ) in
    ap (λ (z : Read ℕ). z >>= with_mode line) mode
    ∙ ap (λ (z : Read (ℕ × Bool)). z >>= with_uid line a.mode) one.reads
    ∙ ap (λ (z : Read (ℕ × Bool)). z >>= with_gid line a.mode a.uid) two.reads
    ∙ ap (λ (z : Read (ℕ × Bool)). z >>= with_size line a.mode a.uid a.gid) three.reads
    ∙ ap (λ (z : Read (Time × Bool)). z >>= with_atime line a.mode a.uid a.gid a.size) four.reads
    ∙ ap (λ (z : Read (Time × Bool)). z >>= with_mtime a.mode a.uid a.gid a.size a.atime) five.reads
    ∙ ap (λ (n : ℕ). read_of a n) len

pub set_attr_field : IsField set_attr_at set_attr_text SetAttrFits
set_attr_field = record { takes = set_attr_takes; again = set_attr_again }
