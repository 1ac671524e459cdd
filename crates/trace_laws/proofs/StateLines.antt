-- State lines: when two states are one, and what the last state line says.
use Rattle.std.proofs.Common.{rules, ◌==◌, ◌≡◌, ℕ, ◌≤◌, ◌⊎◌, Bool, true, false, [], ◌∷◌, ◌++◌, Option, Some, None, refl, sym, ap, ◌∙◌, inl, inr, fold, if◌then◌else◌, append_assoc, le_trans, true≢false, ◌&&◌}
use Rattle.std.proofs.lemmas.Bool.{cases_Bool, eqb-true}
use Rattle.harp_types.specs.contracts.server.ViewNoPartialEq.TheImpl as view_equality
use Rattle.harp_types.specs.contracts.state.HeldPartialEq.TheImpl as held_equality
use Rattle.harp_types.specs.contracts.state.ModePartialEq.TheImpl as mode_equality
use Rattle.harp_types.specs.contracts.state.RolePartialEq.TheImpl as role_equality
use Rattle.group_rules.proofs.Tests.{is_eq', left, right}
use Rattle.harp_types.specs.Server.{number_of}
use Rattle.harp_types.specs.View.{View}
use Rattle.harp_types.specs.declared.server.ServerId.{ServerId}
use Rattle.harp_types.specs.declared.server.ServerId.TheVariants as server
use Rattle.harp_types.specs.declared.state.StateLine.{StateLine}
use Rattle.harp_types.specs.declared.state.Mode.{Mode}
use Rattle.harp_types.specs.declared.state.Role.{Role}
use Rattle.harp_types.specs.declared.state.Held.{Held}
use Rattle.trace_types.specs.declared.line.Line.{Line}
use Rattle.trace_types.specs.declared.line.Line.TheVariants as line
use Rattle.harp_types.specs.Server.{same_server}
use Rattle.trace_claims.specs.Servers.{HasShown, first_open, first_state, first_view, last_state, later_state, opens}
use Rattle.trace_claims.specs.Trace.{Trace}
use Rattle.group_rules.specs.Names.{id_of}
use Rattle.group_rules.specs.Places.{Zero, One, Two, Place}
use Rattle.group_trace.specs.Lines.{state_line, state_lines}
use Rattle.group_rules.specs.Shown.{same_state}
use Rattle.group_trace.specs.Shown.{same_shown}

-- ---- states that compare as equal are one

pub server_is : (s t : ServerId) → number_of s ≡ number_of t → s ≡ t
server_is server.Zero server.Zero e = refl
server_is server.Zero server.One e = cc
server_is server.Zero server.Two e = cc
server_is server.One server.Zero e = cc
server_is server.One server.One e = refl
server_is server.One server.Two e = cc
server_is server.Two server.Zero e = cc
server_is server.Two server.One e = cc
server_is server.Two server.Two e = refl

mode_is : (s t : Mode) → (mode_equality.ghosts).eq s t ≡ true → s ≡ t
mode_is s t e = search rules

role_is : (s t : Role) → (role_equality.ghosts).eq s t ≡ true → s ≡ t
role_is s t e = search rules

held_is : (s t : Held) → (held_equality.ghosts).eq s t ≡ true → s ≡ t
held_is s t e = search rules

view_is : (v w : View) → (view_equality.ghosts).eq v w ≡ true → v ≡ w
view_is v w e = search rules

both : (a b : Bool) → (a && b) ≡ true → (a ≡ true) × (b ≡ true)
both a b e = (left a b e, right a b e)

pub same_is : (s t : StateLine) → same_state s t ≡ true → s ≡ t
unfolding same_state
same_is s t e =
    let m = (mode_equality.ghosts).eq s.mode t.mode in
    let p = (view_equality.ghosts).eq s.promised t.promised in
    let a = (view_equality.ghosts).eq s.accepted t.accepted in
    let r = (role_equality.ghosts).eq s.role t.role in
    let h = (held_equality.ghosts).eq s.held t.held in
    let top = s.top == t.top in
    let cp = s.cp == t.cp in
    let ap' = s.ap == t.ap in
    let lb = s.lb == t.lb in
    let base = s.base == t.base in
    let e1 = both m (p && (a && (r && (h && (base && (lb && (ap' && (cp && top)))))))) e in
    let e2 = both p (a && (r && (h && (base && (lb && (ap' && (cp && top))))))) e1.1 in
    let e3 = both a (r && (h && (base && (lb && (ap' && (cp && top)))))) e2.1 in
    let e4 = both r (h && (base && (lb && (ap' && (cp && top))))) e3.1 in
    let e5 = both h (base && (lb && (ap' && (cp && top)))) e4.1 in
    let e6 = both base (lb && (ap' && (cp && top))) e5.1 in
    let e7 = both lb (ap' && (cp && top)) e6.1 in
    let e8 = both ap' (cp && top) e7.1 in
    let e9 = both cp top e8.1 in
    fields s t (mode_is s.mode t.mode e1.0) (view_is s.promised t.promised e2.0)
    (view_is s.accepted t.accepted e3.0) (role_is s.role t.role e4.0) (held_is s.held t.held e5.0)
    (is_eq' s.base t.base e6.0) (is_eq' s.lb t.lb e7.0) (is_eq' s.ap t.ap e8.0)
    (is_eq' s.cp t.cp e9.0)
    (is_eq' s.top t.top e9.1)
  where
    fields : (s t : StateLine) → s.mode ≡ t.mode → s.promised ≡ t.promised
        → s.accepted ≡ t.accepted
        → s.role ≡ t.role → s.held ≡ t.held → s.base ≡ t.base → s.lb ≡ t.lb → s.ap ≡ t.ap
        → s.cp ≡ t.cp
        → s.top ≡ t.top → s ≡ t
    fields s t m p a r h base lb ap' cp top = λ i. record {
      mode = m i;
      promised = p i;
      accepted = a i;
      role = r i;
      held = h i;
      base = base i;
      lb = lb i;
      ap = ap' i;
      cp = cp i;
      top = top i;
    }

-- ---- whose state line it is

pub its_own : (q : Place) → same_server (id_of q) (id_of q) ≡ true
its_own Zero = refl
its_own One = refl
its_own Two = refl

pub not_own : (q x : Place) → (x ≡ q → ⊥) → same_server (id_of q) (id_of x) ≡ false
not_own Zero Zero n = absurd (n refl)
not_own Zero One n = refl
not_own Zero Two n = refl
not_own One Zero n = refl
not_own One One n = absurd (n refl)
not_own One Two n = refl
not_own Two Zero n = refl
not_own Two One n = refl
not_own Two Two n = absurd (n refl)

pub which : (x q : Place) → (x ≡ q) ⊎ (x ≡ q → ⊥)
which Zero Zero = inl refl
which Zero One = inr (λ e. cc)
which Zero Two = inr (λ e. cc)
which One Zero = inr (λ e. cc)
which One One = inl refl
which One Two = inr (λ e. cc)
which Two Zero = inr (λ e. cc)
which Two One = inr (λ e. cc)
which Two Two = inl refl

pub same_shown_is : (s t : Option StateLine) → same_shown s t ≡ true → s ≡ t
same_shown_is None None e = refl
same_shown_is None (Some t) e = absurd (true≢false (sym e))
same_shown_is (Some s) None e = absurd (true≢false (sym e))
same_shown_is (Some s) (Some t) e = ap Some (same_is s t e)

own_line_is : (q : Place) (before now : Option StateLine)
    → later_state (id_of q) before (state_line q now) ≡ now
own_line_is q before (Some st) = rw (its_own q) refl
own_line_is q before None = rw (its_own q) refl

other_line_is : (q x : Place) (st now : Option StateLine) → (x ≡ q → ⊥)
    → later_state (id_of x) st (state_line q now) ≡ st
other_line_is q x st (Some now) n = rw (not_own q x n) refl
other_line_is q x st None n = rw (not_own q x n) refl

-- the state lines of a step show the new state of the server that stepped
pub own_state : (q : Place) (before now : Option StateLine)
    → fold (later_state (id_of q)) before (state_lines q before now) ≡ now
own_state q before now = elim (cases_Bool (same_shown before now)) [
  | inl same ↦ rw same (same_shown_is before now same)
  | inr other ↦ rw other (own_line_is q before now)
]

pub other_state : (q x : Place) (st before now : Option StateLine) → (x ≡ q → ⊥)
    → fold (later_state (id_of x)) st (state_lines q before now) ≡ st
other_state q x st before now n = elim (cases_Bool (same_shown before now)) [
  | inl same ↦ rw same refl
  | inr other ↦ rw other (other_line_is q x st now n)
]

-- ---- what was shown

-- a state that isn't the first one stands on a line
pub record StandsOn (lines : Trace) (s : ServerId) (st : StateLine) : Type 0 where
  pub earlier : Trace
  pub later : Trace
  pub stands : lines ≡ earlier ++ line.State s st ∷ later

one_later : (l : Line) (lines : Trace) (s : ServerId) (st : StateLine) → StandsOn lines s st
    → StandsOn (l ∷ lines) s st
one_later l lines s st h = record {
  earlier = l ∷ h.earlier;
  later = h.later;
  stands =
      ap (λ ls. l ∷ ls) h.stands;
}

own_line : (lines : Trace) (server s : ServerId) (state st : StateLine) → same_server server s ≡
    true → (Some state ≡ Some st) ⊎ StandsOn lines s st
    → StandsOn (line.State server state ∷ lines) s st
own_line lines server s state st mine (inl e) = record {
  earlier = [];
  later = lines;
  stands = ap (λ x. line.State x state ∷ lines) (server_is server s (eqb-true (number_of server)
      (number_of s) mine)) ∙ ap (λ x. line.State s x ∷ lines) (let y : state ≡ st = cc in y);
}
own_line lines server s state st mine (inr h) = one_later (line.State server state) lines s st h

other_line : (l : Line) (lines : Trace) (s : ServerId) (from : Option StateLine) (st : StateLine)
    → (from ≡ Some st) ⊎ StandsOn lines s st → (from ≡ Some st) ⊎ StandsOn (l ∷ lines) s st
other_line l lines s from st (inl e) = inl e
other_line l lines s from st (inr h) = inr (one_later l lines s st h)

abbrev no_state : Option StateLine
no_state = None

-- the last state is the one before, or it stands on a line
pub state_stands : (lines : Trace) (s : ServerId) (from : Option StateLine) (st : StateLine)
    → fold (later_state s) from lines ≡ Some st → (from ≡ Some st) ⊎ StandsOn lines s st
state_stands [] s from st e = inl e
state_stands (line.State server state ∷ lines) s from st e =
    by (same_server server s) refl (state_stands lines s (if same_server server s then
    Some state else from) st e)
  where
    by : (b : Bool) → same_server server s ≡ b → ((if b then Some state else from) ≡ Some st)
        ⊎ StandsOn lines s st → (from ≡ Some st) ⊎ StandsOn (line.State server state ∷ lines) s st
    by true mine h = inr (own_line lines server s state st mine h)
    by false other h = other_line (line.State server state) lines s from st h
state_stands (line.Down server ∷ lines) s from st e =
    by (same_server server s) (state_stands lines s (if same_server server s then None else
    from) st e)
  where
    by : (b : Bool) → ((if b then no_state else from) ≡ Some st) ⊎ StandsOn lines s st
        → (from ≡ Some st) ⊎ StandsOn (line.Down server ∷ lines) s st
    by true (inl e) = absurd (let clash : no_state ≡ Some st = e in cc)
    by true (inr h) = inr (one_later (line.Down server) lines s st h)
    by false h = other_line (line.Down server) lines s from st h
state_stands (l ∷ lines) s from st e =
    other_line l lines s from st (state_stands lines s from st e)

-- a last state of another view than the first one stands on a line
pub has_shown : (before : Trace) (s : ServerId) (st : StateLine) (view : View) (n : ℕ)
    → last_state before s ≡ Some st → st.accepted ≡ view → (first_view ≡ view → ⊥) → n ≤ st.top
    → HasShown before s view n
has_shown before s st view n e v other reach =
    elim (state_stands before s (Some (first_state s)) st e) [
      | inl same ↦ let z : first_state s ≡ st = cc in
          absurd (other (sym (first_accepted s) ∙ ap (λ (x : StateLine). x.accepted) z ∙ v))
      | inr h ↦ record {
        earlier = h.earlier;
        later = h.later;
        state = st;
        stands =
            h.stands;
        accepted = v;
        reaches = reach;
      }
    ]
  where
    first_accepted : (s : ServerId) → (first_state s).accepted ≡ first_view
    first_accepted server.Zero = refl
    first_accepted server.One = refl
    first_accepted server.Two = refl

pub shown_more : (before more : Trace) (s : ServerId) (view : View) (n : ℕ)
    → HasShown before s view n → HasShown (before ++ more) s view n
shown_more before more s view n h = record {
  earlier = h.earlier;
  later = h.later ++ more;
  state = h.state;
  stands = ap (λ ls. ls ++ more) h.stands ∙ append_assoc h.earlier (line.State s h.state
      ∷ h.later) more;
  accepted = h.accepted;
  reaches = h.reaches;
}

pub shown_less : (before : Trace) (s : ServerId) (view : View) (n k : ℕ) → k ≤ n
    → HasShown before s view n → HasShown before s view k
shown_less before s view n k l h = record {
  earlier = h.earlier;
  later = h.later;
  state =
      h.state;
  stands = h.stands;
  accepted = h.accepted;
  reaches = le_trans l h.reaches;
}

-- ---- the first open line

-- a line that is no open state line of this view
abbrev pub either_line : Option StateLine → Option StateLine → Option StateLine
either_line (Some st) o = Some st
either_line None o = o

pub first_open-append : (xs ys : Trace) (s : ServerId) (view : View) → first_open (xs ++ ys) s view
    ≡ either_line (first_open xs s view) (first_open ys s view)
first_open-append [] ys s view = refl
first_open-append (line.State server state ∷ xs) ys s view = by (same_server server s
    && opens view state) (first_open-append xs ys s view)
  where
    by : (b : Bool) → first_open (xs ++ ys) s view ≡ either_line (first_open xs s view)
        (first_open ys s view)
        → (if b then Some state else first_open (xs ++ ys) s view) ≡ either_line (if b then
        Some state else first_open xs s view) (first_open ys s view)
    by true e = refl
    by false e = e
first_open-append (l ∷ xs) ys s view = first_open-append xs ys s view

pub first_more : (xs ys : Trace) (s : ServerId) (view : View) (st : StateLine)
    → first_open xs s view ≡ Some st → first_open (xs ++ ys) s view ≡ Some st
first_more xs ys s view st e = first_open-append xs ys s view
    ∙ ap (λ o. either_line o (first_open ys s view)) e

-- an open state line of the view is the first one, or one stands before
pub first_is : (earlier later : Trace) (s : ServerId) (view : View) (st : StateLine)
    → same_server s s ≡ true → opens view st ≡ true
    → (x : StateLine) × (first_open (earlier ++ line.State s st ∷ later) s view ≡ Some x)
first_is earlier later s view st own o = by (first_open earlier s view) refl
  where
    found : first_open (line.State s st ∷ later) s view ≡ Some st
    found = rw (own, o) refl

    by : (x : Option StateLine) → first_open earlier s view ≡ x → (y : StateLine)
        × (first_open (earlier ++ line.State s st ∷ later) s view ≡ Some y)
    by (Some y) e = (y, first_more earlier (line.State s st ∷ later) s view y e)
    by None e = (
      st,
      first_open-append earlier (line.State s st ∷ later) s view
          ∙ ap (λ o. either_line o (first_open (line.State s st ∷ later) s view)) e ∙ found,
    )
