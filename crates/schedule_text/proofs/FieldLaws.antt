-- The fields of SETATTR: what is read is spelled so, and what is spelled so is read.
use Rattle.std.proofs.Common.{◌≡◌, ℕ, ◌+◌, ◌-◌, ◌^◌, ◌<◌, ◌≤◌, ◌⊎◌, inl, inr, Bool, true, false, cond, eqb, ◌&&◌, List, [], ◌∷◌, ◌++◌, length, get_or, drop, Option, Some, None, Ok, Err, refl, sym, ap, subst, ◌∙◌, append_assoc, arith}
use Rattle.std.specs.Prelude.{◌==◌, decimal, codes, if◌then◌else◌}
use Rattle.std.proofs.lemmas.Bool.{cases_eq, eqb-true, eq-eqb, ne_eqb, and_parts}
use Rattle.std.proofs.lemmas.List.{length-append}
use Rattle.std.proofs.lemmas.Fmt.{decimal_digit}
use Rattle.harp_types.specs.Server.{number_of}
use Rattle.harp_types.specs.declared.server.ServerId.{ServerId}
use Rattle.harp_types.specs.declared.server.ServerId.TheVariants as servers
use Rattle.harp_types.specs.declared.attr.Time.{Time}
use Rattle.schedule_text.specs.declared.fault.TextFault.TheVariants.{Grammar}
use Rattle.text_spelling.specs.Text.{left, is_left_time, octal, time_text, number_field, mode_field, time_field}
use Rattle.text_spelling.specs.Fits.{TimeFits}
use Rattle.schedule_text.specs.Fields.{EndsWord, Reader, Read, ◌>>=◌, number_at, u32_at, count_at, server_of, server_at, left_time, time_at, dash_or, number_field_at, mode_field_at, time_field_at}
use Rattle.schedule_text.proofs.Numbers.{IsBase, numeral, StopsDigits, rereads, base_ten, base_eight, number_takes, number_again}
use Rattle.schedule_text.proofs.Places.{Spells, Spells-then, Spells-byte, IsField, head_at, drop_past, bind_ok, chosen, ok_is, passed, read_of}

-- ---- numbers that stand as words

pub ends_digits : (rest : List ℕ) → EndsWord rest → StopsDigits 10 rest
ends_digits [] ends = tt
ends_digits (b ∷ rest) ends = inl (omega arith)

pub u32_field : IsField u32_at decimal (λ n. n < 2 ^ 32)
u32_field = record {
  takes = λ line at x e. let t = number_takes 10 4294967295 base_ten (omega arith) line at x e in
      (t.0, omega (arith, t.1));
  again = λ line at n rest fits ends e. number_again 10 4294967295 base_ten (omega arith) line at n
      rest (omega arith) (ends_digits rest ends) e;
}

pub count_field : IsField count_at decimal (λ n. n < 10 ^ 18)
count_field = record {
  takes = λ line at x e. let t =
      number_takes 10 999999999999999999 base_ten (omega arith) line at x e in
      (t.0, omega (arith, t.1));
  again = λ line at n rest fits ends e. number_again 10 999999999999999999 base_ten (omega arith)
      line at n rest (omega arith) (ends_digits rest ends) e;
}

abbrev no_server : Option ServerId
no_server = None

abbrev pub server_text : ServerId → List ℕ
server_text s = decimal (number_of s)

server_digit : (s : ServerId) → server_text s ≡ (48 + number_of s) ∷ []
server_digit servers.Zero = decimal_digit 0 (omega arith)
server_digit servers.One = decimal_digit 1 (omega arith)
server_digit servers.Two = decimal_digit 2 (omega arith)

server_byte : (b : ℕ) (s : ServerId) → server_of b ≡ Some s → b ≡ 48 + number_of s
server_byte b s e =
    elim (chosen (eqb b 48) (Some servers.Zero)
    (cond (eqb b 49) (Some servers.One) (cond (eqb b 50) (Some servers.Two) None)) (Some s) e) [
      | inl zeroth ↦ eqb-true b 48 zeroth.0
          ∙ ap (λ (t : ServerId). 48 + number_of t) (some_is servers.Zero s zeroth.1)
      | inr more ↦ elim (chosen (eqb b 49) (Some servers.One)
          (cond (eqb b 50) (Some servers.Two) None) (Some s) more.1) [
            | inl first ↦ eqb-true b 49 first.0
                ∙ ap (λ (t : ServerId). 48 + number_of t) (some_is servers.One s first.1)
            | inr others ↦ elim (chosen (eqb b 50) (Some servers.Two) None (Some s) others.1) [
              | inl second ↦ eqb-true b 50 second.0
                  ∙ ap (λ (t : ServerId). 48 + number_of t) (some_is servers.Two s second.1)
              | inr none ↦ absurd (none_is s none.1)
            ]
          ]
    ]
  where
    some_is : (s t : ServerId) → Some s ≡ Some t → s ≡ t
    some_is s t e = cc

    none_is : (s : ServerId) → no_server ≡ Some s → ⊥
    none_is s e = cc

server_again : (s : ServerId) → server_of (48 + number_of s) ≡ Some s
server_again servers.Zero = refl
server_again servers.One = refl
server_again servers.Two = refl

abbrev server_read : List ℕ → ℕ → Option ServerId → Read ServerId
server_read line at o = elim o [ None ↦ Err (Grammar at) | Some s ↦ Ok (s, at + 1) ]

server_takes : (line : List ℕ) (at : ℕ) (o : Option ServerId) (x : ServerId × ℕ)
    → server_of (get_or line at 0) ≡ o → server_read line at o ≡ Ok x
    → Spells line at (server_text x.0) x.1 × Unit {0}
server_takes line at None x is e = absurd cc
server_takes line at (Some s) x is e =
    let byte = server_byte (get_or line at 0) s is in
    let here = Spells-byte line at (48 + number_of s) byte (omega arith) in
    subst (λ (z : ServerId × ℕ). Spells line at (server_text z.0) z.1 × Unit {0})
    (ok_is (s, at + 1) x e)
    (subst (λ (l : List ℕ). Spells line at l (at + 1)) (sym (server_digit s)) here, tt)

pub server_reads : (line : List ℕ) (at : ℕ) (s : ServerId) (rest : List ℕ)
    → drop at line ≡ server_text s ++ rest → server_at line at ≡ Ok (s, at + length (server_text s))
server_reads line at s rest e =
    let byte = head_at line at ((48 + number_of s) ∷ rest)
    (e ∙ ap (λ (l : List ℕ). l ++ rest) (server_digit s)) in
    ap (λ b. server_read line at (server_of b)) byte ∙ ap (server_read line at) (server_again s)
    ∙ ap (λ (l : List ℕ). read_of s (at + length l)) (sym (server_digit s))

pub server_field : IsField server_at server_text (λ s. Unit {0})
server_field = record {
  takes = λ line at x e. server_takes line at (server_of (get_or line at 0)) x refl e;
  again = λ line at s rest fits ends e. server_reads line at s rest e;
}

-- ---- the fields of SETATTR

-- a word ends here, or another field begins
abbrev pub StopsField : List ℕ → Type 0
StopsField [] = Unit {0}
StopsField (b ∷ rest) = (b ≡ 32) ⊎ (b ≡ 44)

-- a field and its spelling, as for words
pub record IsPart {A : Type 0} (read : Reader A) (spell : A → List ℕ) (Fits : A → Type 0)
    : Type 0 where
  pub takes : (line : List ℕ) (at : ℕ) (x : A × ℕ) → read line at ≡ Ok x
      → Spells line at (spell x.0) x.1 × Fits x.0
  pub again : (line : List ℕ) (at : ℕ) (x : A) (rest : List ℕ) → Fits x → StopsField rest
      → drop at line ≡ spell x ++ rest → read line at ≡ Ok (x, at + length (spell x))

stops_ten : (rest : List ℕ) → StopsField rest → StopsDigits 10 rest
stops_ten [] stops = tt
stops_ten (b ∷ rest) (inl space) = inl (omega arith)
stops_ten (b ∷ rest) (inr comma) = inl (omega arith)

stops_eight : (rest : List ℕ) → StopsField rest → StopsDigits 8 rest
stops_eight [] stops = tt
stops_eight (b ∷ rest) (inl space) = inl (omega arith)
stops_eight (b ∷ rest) (inr comma) = inl (omega arith)

-- a dash, or a part whose values aren't left
dash_takes : {A : Type 0} (none : A) (r : Reader A) (line : List ℕ) (at : ℕ) (x : A × ℕ)
    → dash_or none r line at ≡ Ok x → (Spells line at (codes "-") x.1 × (x.0 ≡ none))
    ⊎ (r line at ≡ Ok x)
dash_takes {A} none r line at x e =
    elim (chosen (eqb (get_or line at 0) 45) (Ok (none, at + 1)) (r line at) (Ok x) e) [
      | inl dash ↦ inl
          (subst (λ (z : A × ℕ). Spells line at (codes "-") z.1 × (z.0 ≡ none))
          (ok_is (none, at + 1) x dash.1)
          (Spells-byte line at 45 (eqb-true _ 45 dash.0) (omega arith), refl))
      | inr other ↦ inr other.1
    ]

dash_again : {A : Type 0} (none : A) (r : Reader A) (line : List ℕ) (at : ℕ) (rest : List ℕ)
    → drop at line ≡ codes "-" ++ rest → dash_or none r line at ≡ Ok (none, at + 1)
dash_again none r line at rest e =
    ap (λ (b : Bool). cond b (read_of none (at + 1)) (r line at))
    (eq-eqb _ 45 (head_at line at (45 ∷ rest) e))

dash_other : {A : Type 0} (none : A) (r : Reader A) (line : List ℕ) (at : ℕ)
    → (get_or line at 0 ≡ 45 → ⊥) → dash_or none r line at ≡ r line at
dash_other none r line at other =
    ap (λ (b : Bool). cond b (read_of none (at + 1)) (r line at)) (ne_eqb _ 45 other)

no_dash : (base most : ℕ) → IsBase base → most < 10 ^ 18
    → (line : List ℕ) (at m : ℕ) (rest : List ℕ) → m ≤ most → drop at line ≡ numeral base m ++ rest
    → get_or line at 0 ≡ 45 → ⊥
no_dash base most is small line at m rest within e dash =
    let r = rereads base most is small m within in
    let first = head_at line at ((48 + r.first) ∷ (r.others ++ rest))
    (e ∙ ap (λ (l : List ℕ). l ++ rest) r.parts) in
    omega (arith, first, dash)

number_text : (n : ℕ) → n ≤ 4294967294 → number_field n ≡ decimal n
unfolding number_field
number_text n le =
    ap (λ (b : Bool). cond b (codes "-") (decimal n)) (ne_eqb n left (λ e. omega arith))

left_text : number_field left ≡ codes "-"
unfolding number_field
left_text = refl

pub number_part : IsPart number_field_at number_field (λ n. n < 2 ^ 32)
unfolding number_field_at
number_part = record {
  takes = λ line at x e.
      elim (dash_takes left (number_at 10 4294967294) line at x e) [
        | inl dash ↦ (
          subst (λ (l : List ℕ). Spells line at l x.1)
              (sym (ap number_field dash.1 ∙ left_text)) dash.0,
          omega (arith, dash.1),
        )
        | inr other ↦
            let t = number_takes 10 4294967294 base_ten (omega arith) line at x other in (
              subst (λ (l : List ℕ). Spells line at l x.1) (sym (number_text x.0 t.1)) t.0,
              omega (arith, t.1),
            )
      ];
  again = λ line at n rest fits stops e.
      elim (cases_eq n left) [
        | inl is ↦
            let text : number_field n ≡ codes "-" = ap number_field is ∙ left_text in
            dash_again left (number_at 10 4294967294) line at rest
            (e ∙ ap (λ (l : List ℕ). l ++ rest) text)
            ∙ (λ i. read_of (sym is i) (at + length (sym text i)))
        | inr other ↦
            let within : n ≤ 4294967294 = omega arith in
            let text = number_text n within in
            let here = e ∙ ap (λ (l : List ℕ). l ++ rest) text in
            dash_other left (number_at 10 4294967294) line at
            (no_dash 10 4294967294 base_ten (omega arith) line at n rest within here)
            ∙ number_again 10 4294967294 base_ten (omega arith) line at n rest within
            (stops_ten rest stops) here ∙ ap (λ (l : List ℕ). read_of n (at + length l)) (sym text)
      ];
}

mode_text : (n : ℕ) → n ≤ 4095 → mode_field n ≡ numeral 8 n
unfolding mode_field octal
mode_text n le =
    ap (λ (b : Bool). cond b (codes "-") (numeral 8 n)) (ne_eqb n left (λ e. omega arith))

left_mode_text : mode_field left ≡ codes "-"
unfolding mode_field
left_mode_text = refl

abbrev pub ModeFits : ℕ → Type 0
ModeFits n = (n < 4096) ⊎ (n ≡ left)

pub mode_part : IsPart mode_field_at mode_field ModeFits
unfolding mode_field_at
mode_part = record {
  takes = λ line at x e.
      elim (dash_takes left (number_at 8 4095) line at x e) [
        | inl dash ↦ (
          subst (λ (l : List ℕ). Spells line at l x.1)
              (sym (ap mode_field dash.1 ∙ left_mode_text)) dash.0,
          inr dash.1,
        )
        | inr other ↦
            let t = number_takes 8 4095 base_eight (omega arith) line at x other in (
              subst (λ (l : List ℕ). Spells line at l x.1) (sym (mode_text x.0 t.1)) t.0,
              inl
                  (omega (arith, t.1)),
            )
      ];
  again = λ line at n rest fits stops e.
      elim fits [
        | inr is ↦
            let text : mode_field n ≡ codes "-" = ap mode_field is ∙ left_mode_text in
            dash_again left (number_at 8 4095) line at rest
            (e ∙ ap (λ (l : List ℕ). l ++ rest) text)
            ∙ (λ i. read_of (sym is i) (at + length (sym text i)))
        | inl lt ↦
            let within : n ≤ 4095 = omega arith in
            let text = mode_text n within in
            let here = e ∙ ap (λ (l : List ℕ). l ++ rest) text in
            dash_other left (number_at 8 4095) line at
            (no_dash 8 4095 base_eight (omega arith) line at n rest within here)
            ∙ number_again 8 4095 base_eight (omega arith) line at n rest within
            (stops_eight rest stops) here
            ∙ ap (λ (l : List ℕ). read_of n (at + length l)) (sym text)
      ];
}

-- ---- times

-- the most microseconds, so that not both fields are left
abbrev limit : ℕ → ℕ
limit s = if s == left then left - 1 else left

limit_small : (s : ℕ) → limit s < 2 ^ 32
limit_small s = grind (arith)

limit_takes : (s m : ℕ) → m ≤ limit s → ((s == left) && (m == left)) ≡ false
limit_takes s m le = grind (arith)

limit_again : (s m : ℕ) → m < 2 ^ 32 → ((s == left) && (m == left)) ≡ false → m ≤ limit s
limit_again s m lt given = grind (arith)

abbrev time_of : ℕ → ℕ → Time
time_of s m = record { seconds = s; micros = m }

abbrev pub IsGivenTime : Time → Type 0
IsGivenTime t = TimeFits t × (is_left_time t ≡ false)

abbrev micros_at : ℕ → List ℕ → ℕ → Read Time
micros_at s line at = number_at 10 (limit s) line (at + 1) >>= λ m. Ok (time_of s m.0, m.1)

time_takes : (line : List ℕ) (at : ℕ) (x : Time × ℕ) → time_at line at ≡ Ok x
    → Spells line at (time_text x.0) x.1 × IsGivenTime x.0
unfolding time_at time_text
time_takes line at x e =
    let p = bind_ok (u32_at line at)
    (λ s. cond (eqb (get_or line s.1 0) 58) (micros_at s.0 line s.1) (Err (Grammar s.1))) x e in
    let s = p.0 in
    let q = passed (eqb (get_or line s.1 0) 58) (Grammar s.1) (micros_at s.0 line s.1) x p.2 in
    let m = bind_ok (number_at 10 (limit s.0) line (s.1 + 1)) (λ m. Ok (time_of s.0 m.0, m.1)) x
    q.1 in
    let front = u32_field.takes line at s p.1 in
    let back = number_takes 10 (limit s.0) base_ten (omega (arith, limit_small s.0)) line (s.1 + 1)
    m.0 m.1 in
    let colon : Spells line s.1 (58 ∷ []) (s.1 + 1) =
    Spells-byte line s.1 58 (eqb-true _ 58 q.0) (omega arith) in
    let tail = Spells-then line s.1 (58 ∷ []) (s.1 + 1) (decimal m.0.0) m.0.1 colon back.0 in
    let whole = Spells-then line at (decimal s.0) s.1 (58 ∷ decimal m.0.0) m.0.1 front.0 tail in
    subst (λ (z : Time × ℕ). Spells line at (decimal z.0.seconds ++ 58 ∷ decimal z.0.micros) z.1
    × IsGivenTime z.0) (ok_is (time_of s.0 m.0.0, m.0.1) x m.2)
    (whole, ((front.1, omega (arith, back.1, limit_small s.0)), limit_takes s.0 m.0.0 back.1))

time_again : (line : List ℕ) (at : ℕ) (t : Time) (rest : List ℕ) → IsGivenTime t → StopsField rest
    → drop at line ≡ time_text t ++ rest → time_at line at ≡ Ok (t, at + length (time_text t))
unfolding time_at time_text
time_again line at t rest fits stops e =
    let s = t.seconds in
    let m = t.micros in
    let most = limit_again s m fits.0.1 fits.1 in
    let front : drop at line ≡ decimal s ++ (58 ∷ (decimal m ++ rest)) =
    e ∙ append_assoc (decimal s) (58 ∷ decimal m) rest in
    let one = number_again 10 4294967295 base_ten (omega arith) line at s (58 ∷ (decimal m ++ rest))
    (omega (arith, fits.0.0)) (inr (omega arith)) front in
    let mid = at + length (decimal s) in
    let behind = drop_past line at (decimal s) (58 ∷ (decimal m ++ rest)) front in
    let colon = eq-eqb (get_or line mid 0) 58
    (head_at line mid (58 ∷ (decimal m ++ rest)) behind) in
    let past = drop_past line mid (58 ∷ []) (decimal m ++ rest) behind in
    let other = number_again 10 (limit s) base_ten (omega (arith, limit_small s)) line (mid + 1) m
    rest most (stops_ten rest stops) past in
    let end : mid + 1 + length (decimal m) ≡ at + length (decimal s ++ 58 ∷ decimal m) =
    omega (arith, length-append (decimal s) (58 ∷ decimal m)) in
    ap (λ (r : Read ℕ). r
    >>= λ z. cond (eqb (get_or line z.1 0) 58) (micros_at z.0 line z.1) (Err (Grammar z.1))) one
    ∙ ap (λ (b : Bool). cond b (micros_at s line mid) (Err (Grammar mid))) colon
    ∙ ap (λ (r : Read ℕ). r >>= λ z. read_of (time_of s z.0) z.1) other
    ∙ ap (λ (n : ℕ). read_of t n) end

given_text : (t : Time) → is_left_time t ≡ false → time_field t ≡ time_text t
unfolding time_field
given_text t given = ap (λ (b : Bool). cond b (codes "-") (time_text t)) given

left_time_text : time_field left_time ≡ codes "-"
unfolding time_field
left_time_text = refl

pub left_time_is : (t : Time) → is_left_time t ≡ true → t ≡ left_time
left_time_is t h =
    let p = and_parts (t.seconds == left) (t.micros == left) h in
    let s = eqb-true t.seconds left p.0 in
    let m = eqb-true t.micros left p.1 in
    λ i. time_of (s i) (m i)

-- the last field, which isn't left
pub last_part : IsPart time_at time_field IsGivenTime
last_part = record {
  takes = λ line at x e. let t =
      time_takes line at x e in
      (subst (λ (l : List ℕ). Spells line at l x.1) (sym (given_text x.0 t.1.1)) t.0, t.1);
  again = λ line at t rest fits stops e.
      let text = given_text t fits.1 in
      time_again line at t rest fits stops (e ∙ ap (λ (l : List ℕ). l ++ rest) text)
      ∙ ap (λ (l : List ℕ). read_of t (at + length l)) (sym text);
}

time_no_dash : (line : List ℕ) (at : ℕ) (t : Time) (rest : List ℕ) → TimeFits t
    → drop at line ≡ time_text t ++ rest → get_or line at 0 ≡ 45 → ⊥
unfolding time_text
time_no_dash line at t rest fits e =
    no_dash 10 4294967295 base_ten (omega arith) line at t.seconds (58 ∷ (decimal t.micros ++ rest))
    (omega (arith, fits.0)) (e ∙ append_assoc (decimal t.seconds) (58 ∷ decimal t.micros) rest)

pub time_part : IsPart time_field_at time_field TimeFits
unfolding time_field_at
time_part = record {
  takes = λ line at x e.
      elim (dash_takes left_time time_at line at x e) [
        | inl dash ↦ (
          subst (λ (l : List ℕ). Spells line at l x.1)
              (sym (ap time_field dash.1 ∙ left_time_text)) dash.0,
          subst TimeFits (sym dash.1)
              (omega arith, omega arith),
        )
        | inr other ↦ let t = last_part.takes line at x other in (t.0, t.1.0)
      ];
  again = λ line at t rest fits stops e. by line at t rest fits stops e (is_left_time t) refl;
}
  where
    by : (line : List ℕ) (at : ℕ) (t : Time) (rest : List ℕ) → TimeFits t → StopsField rest
        → drop at line ≡ time_field t ++ rest → (b : Bool) → is_left_time t ≡ b
        → dash_or left_time time_at line at ≡ Ok (t, at + length (time_field t))
    by line at t rest fits stops e true h =
        let is = left_time_is t h in
        let text : time_field t ≡ codes "-" = ap time_field is ∙ left_time_text in
        dash_again left_time time_at line at rest (e ∙ ap (λ (l : List ℕ). l ++ rest) text)
        ∙ (λ i. read_of (sym is i) (at + length (sym text i)))
    by line at t rest fits stops e false h =
        let here = e ∙ ap (λ (l : List ℕ). l ++ rest) (given_text t h) in
        dash_other left_time time_at line at (time_no_dash line at t rest fits here)
        ∙ last_part.again line at t rest (fits, h) stops e
