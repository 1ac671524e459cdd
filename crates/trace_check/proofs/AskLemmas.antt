-- What is kept of asks, as a trace grows.
use Rattle.std.proofs.Common.{◌≡◌, ℕ, Bool, true, false, List, [], ◌∷◌, ◌++◌, refl, sym, ap, subst, ◌∙◌, inl, inr, Some, ◌||◌, ◌&&◌, ◌==◌}
use Rattle.std.specs.Prelude.{◌↔◌, ◌⊎◌, Contains, IsTrue}
use Rattle.std.specs.Cmp.Lexicographic.{slice_cmp}
use Rattle.std.specs.List.{list_any}
use Rattle.std.specs.BTreeSet.{insert_key}
use Rattle.std.specs.Cmp.{unsigned_tied}
use Rattle.std.specs.Ordering.{is_eq, match_ordering, nat_cmp, ordering_then}
use Rattle.std.specs.declared.cmp.Ordering.{Ordering}
use Rattle.std.specs.declared.cmp.Ordering.TheVariants.{Less, Equal, Greater}
use Rattle.std.proofs.lemmas.Bool.{and_from, eq-eqb, eqb-true}
use Rattle.std.proofs.lemmas.Map.Lookups.{exact_bytes}
use Rattle.std.proofs.lemmas.List.{append-nil}
use Rattle.std.proofs.lemmas.List.Elements.{Contains-push, Contains-push_cases, Contains-append_left}
use Rattle.harp_base.specs.Calls.{CallFits, call_at}
use Rattle.harp_base.specs.Fields.{◌⊗◌}
use Rattle.harp_base.specs.Names.{CredFits, cred_at}
use Rattle.harp_types.specs.declared.call.Call.{Call}
use Rattle.harp_types.specs.declared.cred.Cred.{Cred}
use Rattle.harp_types.specs.declared.server.ServerId.{ServerId}
use Rattle.harp_base.proofs.AttributeLaws.{then}
use Rattle.harp_base.proofs.CallLaws.{call_codec}
use Rattle.harp_base.proofs.NameLaws.{cred_codec}
use Rattle.harp_types.specs.declared.book.BookEntry.{BookEntry}
use Rattle.trace_types.specs.declared.line.Line.{Line}
use Rattle.trace_types.specs.declared.line.Line.TheVariants as line
use Rattle.trace_types.specs.declared.step.Step.{Step}
use Rattle.trace_types.specs.declared.step.Step.TheVariants as step
use Rattle.trace_claims.specs.Faithful.{WasAsked}
use Rattle.trace_claims.specs.Trace.{Trace, step_of_line, steps}
use Rattle.trace_claims.proofs.Places.{steps-append}
use Rattle.trace_check.specs.Asks.{ask_cmp, ask_key, asked_bytes, begins_ask, key_of, AreAsksOf, AskFits, AskKey, Has, IsAdded, TellsAsk}
use Rattle.trace_check.specs.declared.asks.Asks.{Asks}
use Rattle.trace_check.proofs.MarkLemmas.{tied_then}
use Rattle.trace_check.proofs.SameLemmas.{codec_same}

abbrev Asked : Type 0
Asked = Cred × Call

abbrev bytes_of : Asked → List ℕ
bytes_of a = asked_bytes a.0 a.1

abbrev FitsAsked : Asked → Type 0
FitsAsked a = CredFits a.0 × CallFits a.1

-- a caller and a call with the same bytes are the same
asked_same : (a b : Asked) → FitsAsked a → FitsAsked b → bytes_of a ≡ bytes_of b → a ≡ b
asked_same a b f g e =
    codec_same (cred_at ⊗ call_at) bytes_of FitsAsked (then cred_codec call_codec) a b f g e

-- ---- steps

steps_same : (t : Trace) (l : Line) → step_of_line l ≡ [] → steps (t ++ l ∷ []) ≡ steps t
steps_same t l e = steps-append t (l ∷ [])
    ∙ ap (λ (s : List Step). steps t ++ (s ++ [])) e ∙ append-nil (steps t)

steps_more : (t : Trace) (s : Step) → steps (t ++ line.Event s ∷ []) ≡ steps t ++ s ∷ []
steps_more t s = steps-append t (line.Event s ∷ [])

pub no_step : (asks : Asks) (t : Trace) (l : Line) → step_of_line l ≡ [] → AreAsksOf asks t
    → AreAsksOf asks (t ++ l ∷ [])
no_step asks t l e a = record {
  each = λ server client number cred call h. a.each server client number cred call
      (subst (λ (s : List Step). Contains s (step.Ask server client number cred call))
      (steps_same t l e) h);
  alone = λ ask h. let w = a.alone ask h in record {
    server = w.server;
    client = w.client;
    number = w.number;
    cred = w.cred;
    call = w.call;
    stands = subst (λ (s : List Step). Contains s
        (step.Ask w.server w.client w.number w.cred w.call)) (sym (steps_same t l e)) w.stands;
    is = w.is;
    fits = w.fits;
  };
}

abbrev pub is_ask : Step → Bool
is_ask (step.Ask server client number cred call) = true
is_ask s = false

-- a step that asks nothing
pub no_ask : (asks : Asks) (t : Trace) (s : Step) → is_ask s ≡ false → AreAsksOf asks t
    → AreAsksOf asks (t ++ line.Event s ∷ [])
no_ask asks t s none a = record {
  each = λ server client number cred call h.
      elim (Contains-push_cases (steps t) s (step.Ask server client number cred call)
      (subst (λ (x : List Step). Contains x (step.Ask server client number cred call))
      (steps_more t s) h)) [
        | inl before ↦ a.each server client number cred call before
        | inr same ↦ (let wrong : false ≡ true = sym none ∙ ap is_ask same in absurd cc)
      ];
  alone = λ ask h. let w = a.alone ask h in record {
    server = w.server;
    client = w.client;
    number = w.number;
    cred = w.cred;
    call = w.call;
    stands = subst (λ (x : List Step). Contains x
        (step.Ask w.server w.client w.number w.cred w.call)) (sym (steps_more t s))
        (Contains-append_left (steps t) (s ∷ []) (step.Ask w.server w.client w.number w.cred w.call)
        w.stands);
    is = w.is;
    fits = w.fits;
  };
}

pub one_ask : (old new : Asks) (t : Trace) (server : ServerId) (client number : ℕ) (cred : Cred)
    (call : Call) → AskFits cred call
    → IsAdded (ask_key client number cred call) old new → AreAsksOf old t
    → AreAsksOf new (t ++ line.Event (step.Ask server client number cred call) ∷ [])
one_ask old new t server client number cred call fits added a =
    let s = step.Ask server client number cred call in record {
      each = λ v c n d x h.
          (added (ask_key c n d x)).1 (elim (Contains-push_cases (steps t) s
          (step.Ask v c n d x) (subst (λ (y : List Step). Contains y (step.Ask v c n d x))
          (steps_more t s) h))
          as (λ _. Has old (ask_key c n d x)
          ⊎ (ask_key c n d x ≡ ask_key client number cred call)) [
            | inl before ↦ inl (a.each v c n d x before)
            | inr same ↦ inr (same_key v c n d x server client number cred call same)
          ]);
      alone = λ ask h. elim ((added ask).0 h) [
        | inl before ↦ (let w = a.alone ask before in record {
          server = w.server;
          client = w.client;
          number = w.number;
          cred = w.cred;
          call = w.call;
          stands = subst (λ (x : List Step). Contains x
              (step.Ask w.server w.client w.number w.cred w.call)) (sym (steps_more t s))
              (Contains-append_left (steps t) (s ∷ [])
              (step.Ask w.server w.client w.number w.cred w.call) w.stands);
          is = w.is;
          fits = w.fits;
        })
        | inr same ↦ record {
          server = server;
          client = client;
          number = number;
          cred = cred;
          call = call;
          stands = subst (λ (x : List Step). Contains x s) (sym (steps_more t s))
              (Contains-push (steps t) s);
          is = same;
          fits = fits;
        }
      ];
    }
  where
    same_key : (v : ServerId) (c n : ℕ) (d : Cred) (x : Call) (v' : ServerId) (c' n' : ℕ)
        (d' : Cred) (x' : Call) → step.Ask v' c' n' d' x' ≡ step.Ask v c n d x
        → ask_key c n d x ≡ ask_key c' n' d' x'
    same_key v c n d x v' c' n' d' x' e =
        let a0 : c' ≡ c = cc in
        let a1 : n' ≡ n = cc in
        let a2 : d' ≡ d = cc in
        let a3 : x' ≡ x = cc in
        sym (ap (λ (i : ℕ). ask_key i n' d' x') a0 ∙ ap (λ (i : ℕ). ask_key c i d' x') a1
        ∙ ap (λ (i : Cred). ask_key c n i x') a2 ∙ ap (λ (i : Call). ask_key c n d i) a3)

-- ---- whether an entry's call was asked

same_asked : (t : Trace) (server : ServerId) (c n : ℕ) (a : Asked) (d m : ℕ) (b : Asked)
    → c ≡ d → n ≡ m → a ≡ b → Contains (steps t) (step.Ask server c n a.0 a.1)
    → Contains (steps t) (step.Ask server d m b.0 b.1)
same_asked t server c n a d m b e f g h =
    subst (λ (x : Asked). Contains (steps t) (step.Ask server d m x.0 x.1)) g
    (subst (λ (y : ℕ). Contains (steps t) (step.Ask server d y a.0 a.1)) f
    (subst (λ (z : ℕ). Contains (steps t) (step.Ask server z n a.0 a.1)) e h))

pub asked_is : (asks : Asks) (t : Trace) (place : ℕ) (entry : BookEntry) (found : Bool)
    → AreAsksOf asks t → AskFits entry.cred entry.call
    → (IsTrue found ↔ Has asks (ask_key entry.client entry.number entry.cred entry.call))
    → IsTrue found ↔ WasAsked t (line.Entered place entry)
asked_is asks t place entry found a fits is = (
  λ h. let w = a.alone (ask_key entry.client entry.number entry.cred entry.call) (is.0 h) in (
    w.server,
    same_asked t w.server w.client w.number (w.cred, w.call) entry.client entry.number
        (entry.cred, entry.call) (sym (ap (λ (k : AskKey). k.0) w.is))
        (sym (ap (λ (k : AskKey). k.1) w.is)) (asked_same (w.cred, w.call) (entry.cred, entry.call)
        w.fits fits (sym (ap (λ (k : AskKey). k.2) w.is))) w.stands,
  ),
  λ h. is.1 (a.each h.0 entry.client entry.number entry.cred entry.call h.1),
)

-- ---- a line

pub takes_ask : (old new : Asks) (before : Trace) (l : Line) (ask : AskKey)
    → TellsAsk (Some ask) l → IsAdded ask old new → AreAsksOf old before
    → AreAsksOf new (before ++ l ∷ [])
takes_ask old new before (line.Event (step.Ask server client number cred call)) ask t added a =
    one_ask old new before server client number cred call t.1
    (subst (λ (k : AskKey). IsAdded k old new) t.0 added) a
takes_ask old new before (line.Event s) ask t added a = absurd t
takes_ask old new before l ask t added a = absurd t

pub takes_none : (asks : Asks) (before : Trace) (l : Line) → begins_ask l ≡ false
    → AreAsksOf asks before → AreAsksOf asks (before ++ l ∷ [])
takes_none asks before (line.Event (step.Ask server client number cred call)) none a = absurd cc
takes_none asks before (line.Event s) none a = no_ask asks before s refl a
takes_none asks before l none a = no_step asks before l refl a

-- ---- the set of asks

is_equal : (o : Ordering) → is_eq o ≡ true → o ≡ Equal
is_equal Less e = absurd cc
is_equal Equal e = refl
is_equal Greater e = absurd cc

bytes_same : (b d : List ℕ) → is_eq (slice_cmp nat_cmp b d) ≡ true → b ≡ d
bytes_same b d e = exact_bytes b d (is_equal (slice_cmp nat_cmp b d) e)

bytes_tied : (b : List ℕ) → is_eq (slice_cmp nat_cmp b b) ≡ true
bytes_tied [] = refl
bytes_tied (x ∷ b) = tied_then (nat_cmp x x) (slice_cmp nat_cmp b b)
    ∙ and_from (is_eq (nat_cmp x x)) (is_eq (slice_cmp nat_cmp b b))
    (unsigned_tied x x ∙ eq-eqb x x refl) (bytes_tied b)

-- asks are tied where they are the same
ask_tied : (x y : AskKey) → is_eq (ask_cmp x y)
    ≡ (((x.0 == y.0) && (x.1 == y.1)) && is_eq (slice_cmp nat_cmp x.2 y.2))
ask_tied x y =
    let c0 = nat_cmp x.0 y.0 in
    let c1 = nat_cmp x.1 y.1 in
    let c2 = slice_cmp nat_cmp x.2 y.2 in
    tied_then (ordering_then c0 c1) c2
    ∙ ap (λ (b : Bool). b && is_eq c2) (tied_then c0 c1
    ∙ ap (λ (b : Bool). b && is_eq c1) (unsigned_tied x.0 y.0)
    ∙ ap (λ (b : Bool). (x.0 == y.0) && b) (unsigned_tied x.1 y.1))

and_parts : (a b : Bool) → (a && b) ≡ true → (a ≡ true) × (b ≡ true)
and_parts true b e = (refl, e)
and_parts false b e = absurd cc

ask_same : (x y : AskKey) → is_eq (ask_cmp x y) ≡ true → x ≡ y
ask_same x y e =
    let p = and_parts ((x.0 == y.0) && (x.1 == y.1)) (is_eq (slice_cmp nat_cmp x.2 y.2))
    (sym (ask_tied x y) ∙ e) in
    let q = and_parts (x.0 == y.0) (x.1 == y.1) p.0 in
    let e0 = eqb-true x.0 y.0 q.0 in
    let e1 = eqb-true x.1 y.1 q.1 in
    let e2 = bytes_same x.2 y.2 p.1 in
    ap (λ (i : ℕ). (i, x.1, x.2)) e0 ∙ ap (λ (i : ℕ). (y.0, i, x.2)) e1
    ∙ ap (λ (i : List ℕ). (y.0, y.1, i)) e2

ask_itself : (x : AskKey) → is_eq (ask_cmp x x) ≡ true
ask_itself x = ask_tied x x
    ∙ and_from ((x.0 == x.0) && (x.1 == x.1)) (is_eq (slice_cmp nat_cmp x.2 x.2))
    (and_from (x.0 == x.0) (x.1 == x.1) (eq-eqb x.0 x.0 refl) (eq-eqb x.1 x.1 refl))
    (bytes_tied x.2)

or_swap : (a b d : Bool) → (a || (b || d)) ≡ (b || (a || d))
or_swap true true d = refl
or_swap true false d = refl
or_swap false true d = refl
or_swap false false d = refl

or_twice : (a b d : Bool) → a ≡ b → (b || d) ≡ (a || (b || d))
or_twice true true d e = refl
or_twice true false d e = absurd cc
or_twice false true d e = refl
or_twice false false d e = refl

inserted_at : {V : Type 0} (T : V → Bool) (o : Ordering) (key x : V) (xs rest : List V)
    → (o ≡ Equal → T key ≡ T x) → list_any T rest ≡ (T key || list_any T xs)
    → list_any T (match_ordering o (key ∷ x ∷ xs) (x ∷ xs) (x ∷ rest))
    ≡ (T key || (T x || list_any T xs))
inserted_at T Less key x xs rest same e = refl
inserted_at T Equal key x xs rest same e = or_twice (T key) (T x) (list_any T xs) (same refl)
inserted_at T Greater key x xs rest same e = ap (λ (b : Bool). T x || b) e
    ∙ or_swap (T x) (T key) (list_any T xs)

inserted : {V : Type 0} (view : V → AskKey) (b : AskKey) (key : V) (keys : List V)
    → list_any (λ k. is_eq (ask_cmp b (view k)))
    (insert_key (λ x y. ask_cmp (view x) (view y)) keys key)
    ≡ (is_eq (ask_cmp b (view key)) || list_any (λ k. is_eq (ask_cmp b (view k))) keys)
inserted view b key [] = refl
inserted view b key (x ∷ keys) =
    inserted_at (λ k. is_eq (ask_cmp b (view k))) (ask_cmp (view key) (view x)) key x keys
    (insert_key (λ v w. ask_cmp (view v) (view w)) keys key)
    (λ e. ap (λ (d : AskKey). is_eq (ask_cmp b d)) (ask_same (view key) (view x) (ap is_eq e)))
    (inserted view b key keys)

or_cases : (a b : Bool) → (a || b) ≡ true → (a ≡ true) ⊎ (b ≡ true)
or_cases true b e = inl refl
or_cases false b e = inr e

or_left : (a b : Bool) → a ≡ true → (a || b) ≡ true
or_left true b e = refl
or_left false b e = absurd cc

or_right : (a b : Bool) → b ≡ true → (a || b) ≡ true
or_right true b e = refl
or_right false b e = e

pub added_is : {V : Type 0} (view : V → AskKey) (old new : List V) (key : V)
    → new ≡ insert_key (λ x y. ask_cmp (view x) (view y)) old key → (b : AskKey)
    → (list_any (λ k. is_eq (ask_cmp b (view k))) new ≡ true)
    ↔ ((list_any (λ k. is_eq (ask_cmp b (view k))) old ≡ true) ⊎ (b ≡ view key))
added_is {V} view old new key e b =
    let T : V → Bool = λ k. is_eq (ask_cmp b (view k)) in
    let is : list_any T new ≡ (T key || list_any T old) = ap (list_any T) e
    ∙ inserted view b key old in (
      λ h. elim (or_cases (T key) (list_any T old) (sym is ∙ h)) [
        | inl same ↦ inr (ask_same b (view key) same)
        | inr before ↦ inl before
      ],
      λ h. is ∙ elim h [
        | inl before ↦ or_right (T key) (list_any T old) before
        | inr same ↦ or_left (T key) (list_any T old)
            (subst (λ (d : AskKey). is_eq (ask_cmp b d) ≡ true) same (ask_itself b))
      ],
    )

pub found_is : (asks : Asks) (found : Bool) (s ask : AskKey)
    → found ≡ list_any (λ k. is_eq (ask_cmp s (key_of k))) asks.asked.keys → s ≡ ask
    → IsTrue found ↔ Has asks ask
found_is asks found s ask e same =
    let is : found ≡ list_any (λ k. is_eq (ask_cmp ask (key_of k))) asks.asked.keys =
    subst (λ (b : AskKey). found ≡ list_any (λ k. is_eq (ask_cmp b (key_of k)))
    asks.asked.keys) same e in
    (λ h. sym is ∙ h, λ h. is ∙ h)
