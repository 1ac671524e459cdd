-- Lines that may each stand where they stand, of which the last may be last alone: a closed trace.
use Rattle.std.proofs.Common.{◌≡◌, ℕ, ◌+◌, Bool, true, false, ◌||◌, List, [], ◌∷◌, ◌++◌, length, refl, sym, ap, subst, ◌∙◌, append_assoc}
use Rattle.std.specs.List.{AllByRecursion}
use Rattle.std.proofs.lemmas.List.{append-nil}
use Rattle.trace_types.specs.declared.line.Line.{Line}
use Rattle.trace_types.specs.declared.line.Line.TheVariants as line
use Rattle.trace_claims.specs.Trace.{AtEachPlace, AtPlacesAfter, BeginsWithEvent, Ends, IsClosed, Trace, entries, is_last}
use Rattle.trace_check.specs.Readings.{begins_step}
use Rattle.trace_verdict.specs.Places.{CanFollow, has_ended}
use Rattle.trace_verdict.proofs.Taking.{ended_push}

-- ---- from places to a closed trace

-- what ends a trace behind these lines
record Closes (before rest : Trace) : Type 0 where
  body : Trace
  last : Line
  parts : rest ≡ body ++ last ∷ []
  open_before : AllByRecursion (λ l. is_last l ≡ false) body
  is : is_last last ≡ true
  follows : CanFollow (before ++ body) last

no_more : (before : Trace) (l : Line) (ls : Trace) → is_last l ≡ true
    → AtPlacesAfter CanFollow (before ++ l ∷ []) ls → ls ≡ []
no_more before l [] last h = refl
no_more before l (m ∷ ls) last h =
    let ends : true ≡ false = sym (ended_push before l ∙ last) ∙ h.0.goes_on in absurd cc

closes_here : (before : Trace) (l : Line) (ls : Trace) (last : Bool) → is_last l ≡ last
    → AtPlacesAfter CanFollow before (l ∷ ls)
    → (is_last l ≡ false → Closes (before ++ l ∷ []) ls) → Closes before (l ∷ ls)
closes_here before l ls true last h more = record {
  body = [];
  last = l;
  parts = ap (λ (t : Trace). l ∷ t) (no_more before l ls last h.1);
  open_before = tt;
  is = last;
  follows = subst (λ (b : Trace). CanFollow b l) (sym (append-nil before)) h.0;
}
closes_here before l ls false last h more =
    let c = more last in
    record {
      body = l ∷ c.body;
      last = c.last;
      parts = ap (λ (t : Trace). l ∷ t) c.parts;
      open_before = (last, c.open_before);
      is = c.is;
      follows = subst (λ (b : Trace). CanFollow b c.last) (append_assoc before (l ∷ []) c.body)
          c.follows;
    }

closes : (before rest : Trace) → has_ended before ≡ false → AtPlacesAfter CanFollow before rest
    → has_ended (before ++ rest) ≡ true → Closes before rest
closes before [] going h ended =
    let both : true ≡ false = sym ended ∙ ap has_ended (append-nil before) ∙ going in absurd cc
closes before (l ∷ ls) going h ended =
    closes_here before l ls (is_last l) refl h (λ goes. closes (before ++ l ∷ []) ls
    (ended_push before l ∙ goes) h.1 (ap has_ended (append_assoc before (l ∷ []) ls) ∙ ended))

ends_with : (n : ℕ) (l : Line) → is_last l ≡ true → ((k : ℕ) → l ≡ line.End k → k ≡ n) → Ends n l
ends_with n (line.Bad number fault) last counts = tt
ends_with n (line.End k) last counts = counts k refl
ends_with n l last counts = absurd cc

event_first : (l : Line) (ls : Trace) → (begins_step l || is_last l) ≡ true
    → is_last l ≡ false → BeginsWithEvent (l ∷ ls)
event_first (line.Event step) ls begins last = tt
event_first (line.Bad number fault) ls begins last = absurd cc
event_first (line.End k) ls begins last = absurd cc
event_first l ls begins last = absurd cc

begins_right : (body : Trace) (last : Line) → AtEachPlace CanFollow (body ++ last ∷ [])
    → AllByRecursion (λ l. is_last l ≡ false) body → BeginsWithEvent body
begins_right [] last h open_before = tt
begins_right (l ∷ body) last h open_before =
    event_first l body (h.0.begins refl) open_before.0

pub closed_from : (trace : Trace) → AtEachPlace CanFollow trace → has_ended trace ≡ true
    → IsClosed trace
closed_from trace h ended =
    let c = closes [] trace refl h ended in
    record {
      body = c.body;
      last = c.last;
      parts = c.parts;
      begins = begins_right c.body c.last (subst (AtEachPlace CanFollow) c.parts h) c.open_before;
      open_before = c.open_before;
      ends = ends_with (length (entries c.body)) c.last c.is c.follows.counts;
    }

-- ---- from a closed trace to places

first_begins : (l : Line) (ls : Trace) → BeginsWithEvent (l ∷ ls)
    → (begins_step l || is_last l) ≡ true
first_begins (line.Event step) ls h = refl
first_begins l ls h = absurd h

last_stands : (l : Line) (n : ℕ) → Ends n l → is_last l ≡ true
last_stands (line.Bad number fault) n h = refl
last_stands (line.End k) n h = refl
last_stands l n h = absurd h

or_true : (a : Bool) → (a || true) ≡ true
or_true true = refl
or_true false = refl

counted : (l : Line) (n : ℕ) → Ends n l → (k : ℕ) → l ≡ line.End k → k ≡ n
counted l n h k e = subst (Ends n) e h

not_end : (l : Line) (k : ℕ) (n : ℕ) → is_last l ≡ false → l ≡ line.End k → k ≡ n
not_end l k n going e =
    let both : true ≡ false = sym (ap is_last e) ∙ going in absurd cc

is_first : (before : Trace) (l : Line) (ls : Trace) → (before ≡ [] → BeginsWithEvent (l ∷ ls))
    → before ≡ [] → (begins_step l || is_last l) ≡ true
is_first before l ls begins e = first_begins l ls (begins e)

some_line : (before : Trace) (l : Line) → before ++ l ∷ [] ≡ [] → ⊥
some_line [] l e = absurd cc
some_line (x ∷ before) l e = absurd cc

places : (before body : Trace) (last : Line) → has_ended before ≡ false
    → (before ≡ [] → BeginsWithEvent body) → AllByRecursion (λ l. is_last l ≡ false) body
    → Ends (length (entries (before ++ body))) last
    → AtPlacesAfter CanFollow before (body ++ last ∷ [])
places before [] last going begins open_before ends =
    let n : ℕ = length (entries before) in
    let here : Ends n last =
    subst (λ (b : Trace). Ends (length (entries b)) last) (append-nil before) ends in (
      record {
        goes_on = going;
        begins = λ e. ap (λ (b : Bool). begins_step last || b) (last_stands last n here)
            ∙ or_true (begins_step last);
        counts = counted last n here;
      },
      tt,
    )
places before (l ∷ body) last going begins open_before ends = (
  record {
    goes_on = going;
    begins = is_first before l body begins;
    counts = λ k e. not_end l k (length (entries before)) open_before.0 e;
  },
  places (before ++ l ∷ []) body last (ended_push before l ∙ open_before.0)
      (λ e. absurd (some_line before l e)) open_before.1
      (subst (λ (b : Trace). Ends (length (entries b)) last)
      (sym (append_assoc before (l ∷ []) body)) ends),
)

pub closed_places : (trace : Trace) → IsClosed trace → AtEachPlace CanFollow trace
closed_places trace c = subst (AtEachPlace CanFollow) (sym c.parts)
    (places [] c.body c.last refl (λ e. c.begins) c.open_before c.ends)

pub closed_ended : (trace : Trace) → IsClosed trace → has_ended trace ≡ true
closed_ended trace c = ap has_ended c.parts ∙ ended_push c.body c.last
    ∙ last_stands c.last (length (entries c.body)) c.ends

-- ---- a fact of one place

pub place_amid : (P : Trace → Line → Type 0) (start before : Trace) (l : Line) (rest : Trace)
    → AtPlacesAfter P start (before ++ l ∷ rest) → P (start ++ before) l
place_amid P start [] l rest h = subst (λ (b : Trace). P b l) (sym (append-nil start)) h.0
place_amid P start (x ∷ before) l rest h =
    subst (λ (b : Trace). P b l) (append_assoc start (x ∷ []) before)
    (place_amid P (start ++ x ∷ []) before l rest h.1)
