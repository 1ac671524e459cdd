-- An active server, as its leader or its partner and the rest of it.
use Rattle.std.proofs.Common.{◌≡◌, ℕ, Bool, true, false, List, [], ◌∷◌, refl, ap, sym, ◌∙◌, subst, if◌then◌else◌}
use Rattle.file_tree.specs.Book.{Entry}
use Rattle.group_rules.specs.Names.{place_of}
use Rattle.group_rules.specs.Open.{base_tests, rebase}
use Rattle.group_rules.specs.Moves.{Appending, Applying, Basing, Committing, Heeding, Hearing, Move, Noting, Opening, Reading, Saying, Sending, act, acts}
use Rattle.group_rules.specs.Places.{Place, all_of, leader}
use Rattle.group_rules.specs.State.{Plan, Server}
use Rattle.harp_types.specs.declared.server.ServerId.{ServerId}
use Rattle.harp_store.specs.Mark.{MarkFields}
use Rattle.idle_log.specs.Kept.{plan_of}
use Rattle.idle_log.specs.declared.form.Form.{Form}
use Rattle.node.specs.Node.{server, value}
use Rattle.node.specs.State.{IsLeading, outer}
use Rattle.node.specs.declared.state.State.TheVariants as state
use Rattle.node.specs.declared.state.Task.{Task}
use Rattle.promise.specs.Promise.{HorizonValue}
use Rattle.replica.specs.Leading.{Leading, Outer, led, place_led, storers_led}

-- ---- what the moves of an active server leave

pub record IsFramed (a b : Server Entry) : Type 0 where
  pub promised : a.promised ≡ b.promised
  pub accepted : a.accepted ≡ b.accepted
  pub role : a.role ≡ b.role
  pub lb : a.lb ≡ b.lb
  pub plan : a.plan ≡ b.plan

abbrev pub IsQuiet : Move Entry → Type 0
IsQuiet (Hearing x lb) = Unit {0}
IsQuiet (Opening lb) = Unit {0}
IsQuiet (Heeding items cp base) = Unit {0}
IsQuiet (Appending e) = Unit {0}
IsQuiet (Noting t lb until) = Unit {0}
IsQuiet (Committing n) = Unit {0}
IsQuiet (Basing n) = Unit {0}
IsQuiet (Applying n) = Unit {0}
IsQuiet (Reading n e) = Unit {0}
IsQuiet (Saying say) = Unit {0}
IsQuiet (Sending to m) = Unit {0}
IsQuiet m = ⊥

abbrev pub AreQuiet : List (Move Entry) → Type 0
AreQuiet [] = Unit {0}
AreQuiet (m ∷ ms) = IsQuiet m × AreQuiet ms

framed : {a b : Server Entry} → a.promised ≡ b.promised → a.accepted ≡ b.accepted
    → a.role ≡ b.role → a.lb ≡ b.lb → a.plan ≡ b.plan → IsFramed a b
framed promised accepted role lb plan = record {
  promised = promised;
  accepted = accepted;
  role = role;
  lb = lb;
  plan = plan;
}

framed_act : (q : Place) (clock : ℕ) (s : Server Entry) (m : Move Entry) → IsQuiet m
    → IsFramed (act q clock s m) s
framed_act q clock s (Hearing x lb) h = framed refl refl refl refl refl
framed_act q clock s (Opening lb) h = framed refl refl refl refl refl
framed_act q clock s (Heeding items cp base) h = framed refl refl refl refl refl
framed_act q clock s (Appending e) h = framed refl refl refl refl refl
framed_act q clock s (Noting t lb until) h = framed refl refl refl refl refl
framed_act q clock s (Committing n) h = framed refl refl refl refl refl
framed_act q clock s (Basing n) h = framed refl refl refl refl refl
framed_act q clock s (Applying n) h = framed refl refl refl refl refl
framed_act q clock s (Reading n e) h = framed refl refl refl refl refl
framed_act q clock s (Saying say) h = framed refl refl refl refl refl
framed_act q clock s (Sending to m) h = framed refl refl refl refl refl
framed_act q clock s m h = absurd h

framed_then : (a b c : Server Entry) → IsFramed a b → IsFramed b c → IsFramed a c
framed_then a b c h k = record {
  promised = h.promised ∙ k.promised;
  accepted = h.accepted ∙ k.accepted;
  role = h.role ∙ k.role;
  lb = h.lb ∙ k.lb;
  plan = h.plan ∙ k.plan;
}

pub framed_acts : (q : Place) (clock : ℕ) (s : Server Entry) (ms : List (Move Entry))
    → AreQuiet ms → IsFramed (acts q clock s ms) s
framed_acts q clock s [] h = framed refl refl refl refl refl
framed_acts q clock s (m ∷ ms) h =
    framed_then (acts q clock (act q clock s m) ms) (act q clock s m) s
    (framed_acts q clock (act q clock s m) ms h.1) (framed_act q clock s m h.0)

-- ---- the rules of an active server are of such moves

quiet_if : (b : Bool) (ms : List (Move Entry)) → AreQuiet ms → AreQuiet (if b then ms else [])
quiet_if true ms h = h
quiet_if false ms h = tt

pub quiet_rebase : (s : Server Entry) → AreQuiet (rebase s)
quiet_rebase s = quiet_if (all_of (base_tests s)) _ (tt, tt)

-- the server of a node that leads is its leader's
pub as_led : (me : ServerId) (mark : MarkFields) (horizon : HorizonValue) (served : ℕ) (duty : Task)
    (l : Leading) (plan : Form) (items : List Entry) → IsLeading (place_of me) mark l (plan_of plan)
    → server (value me mark horizon served duty (state.Leads l plan)) items
    ≡ led l (outer me mark horizon served duty plan)
as_led me mark horizon served duty l plan items is =
    rw (
      is.mark.promised,
      is.mark.accepted,
      is.mark.role,
      is.mark.lb,
      is.mark.saved,
      is.storers,
      is.start,
      is.horizon,
    ) refl

-- ---- a call of the leader

pub still_leading : (me : ServerId) (mark : MarkFields) (horizon : HorizonValue) (served : ℕ)
    (duty : Task)
    (l m : Leading) (plan : Form) → IsLeading (place_of me) mark l (plan_of plan)
    → IsFramed (led m (outer me mark horizon served duty plan))
    (led l (outer me mark horizon served duty plan))
    → IsLeading (place_of me) mark m (plan_of plan)
still_leading me mark horizon served duty l m plan is frame =
    let storers : storers_led l.beside (place_of me) ≡ storers_led m.beside (place_of me) =
    sym (ap (λ (p : Plan). p.storers) frame.plan) in
    record {
      mark = record {
        promised = is.mark.promised ∙ sym frame.promised;
        accepted = is.mark.accepted ∙ sym frame.accepted;
        role = is.mark.role ∙ sym frame.role;
        lb = is.mark.lb ∙ sym frame.lb;
        saved = is.mark.saved;
      };
      storers = is.storers ∙ storers;
      start = is.start ∙ sym (ap (λ (p : Plan). p.start) frame.plan);
      horizon = is.horizon ∙ sym (ap (λ (p : Plan). p.horizon) frame.plan);
      place = ap leader (sym storers) ∙ is.place;
    }

framed_same : (a b s : Server Entry) → a ≡ b → IsFramed b s → IsFramed a s
framed_same a b s is h = subst (λ (x : Server Entry). IsFramed x s) (sym is) h

-- a leader that made quiet moves leads on
pub leads_on : (me : ServerId) (mark : MarkFields) (horizon : HorizonValue) (served : ℕ)
    (duty : Task)
    (l m : Leading) (plan : Form) (q : Place) (clock : ℕ) (ms : List (Move Entry))
    → IsLeading (place_of me) mark l (plan_of plan) → AreQuiet ms
    → led m (outer me mark horizon served duty plan)
    ≡ acts q clock (led l (outer me mark horizon served duty plan)) ms
    → IsLeading (place_of me) mark m (plan_of plan)
leads_on me mark horizon served duty l m plan q clock ms is quiet made =
    let o = outer me mark horizon served duty plan in
    still_leading me mark horizon served duty l m plan is
    (framed_same (led m o) (acts q clock (led l o) ms) (led l o) made
    (framed_acts q clock (led l o) ms quiet))

-- ---- the base

pub leads_rebased : (me : ServerId) (mark : MarkFields) (horizon : HorizonValue) (served : ℕ)
    (duty : Task)
    (l m : Leading) (plan : Form) → IsLeading (place_of me) mark l (plan_of plan)
    → ((o : Outer) (clock : ℕ) → led m o ≡ acts (place_led l o) clock (led l o) (rebase (led l o)))
    → IsLeading (place_of me) mark m (plan_of plan)
leads_rebased me mark horizon served duty l m plan is made =
    let o = outer me mark horizon served duty plan in
    leads_on me mark horizon served duty l m plan (place_led l o) 0 (rebase (led l o)) is
    (quiet_rebase (led l o)) (made o 0)

-- a server, and then its base
abbrev pub rebased_from : Place → ℕ → Server Entry → Server Entry
rebased_from q clock s = acts q clock s (rebase s)

pub rebased : (me : ServerId) (mark : MarkFields) (horizon : HorizonValue) (served : ℕ)
    (duty : Task)
    (l m : Leading) (plan : Form) (items : List Entry) (clock : ℕ)
    → IsLeading (place_of me) mark l (plan_of plan)
    → ((o : Outer) (clock : ℕ) → led m o ≡ acts (place_led l o) clock (led l o) (rebase (led l o)))
    → server (value me mark horizon served duty (state.Leads m plan)) items
    ≡ acts (place_of me) clock
    (server (value me mark horizon served duty (state.Leads l plan)) items)
    (rebase (server (value me mark horizon served duty (state.Leads l plan)) items))
rebased me mark horizon served duty l m plan items clock is made =
    let o = outer me mark horizon served duty plan in
    let new = leads_rebased me mark horizon served duty l m plan is made in
    as_led me mark horizon served duty m plan items new ∙ made o clock
    ∙ ap (λ (q : Place). rebased_from q clock (led l o)) is.place
    ∙ ap (λ (s : Server Entry). rebased_from (place_of me) clock s)
    (sym (as_led me mark horizon served duty l plan items is))
