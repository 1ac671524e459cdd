-- A step has somebody for each call that it answers or refuses.
use Rattle.std.proofs.Common.{◌≡◌, ℕ, ◌≤◌, List, length, Option, None, Some, refl, sym, ap, subst, arith, le_of_eq}
use Rattle.std.specs.Prelude.{option_map}
use Rattle.file_tree.specs.Book.{Entry}
use Rattle.group_trace.specs.DiskCalls.{measures_of}
use Rattle.group_rules.specs.Moves.{Appending, Move}
use Rattle.group_rules.specs.Places.{Place}
use Rattle.group_rules.specs.Said.{refusals_said}
use Rattle.group_rules.specs.State.{Ack, Group, Message, Mode, Open, Server, top}
use Rattle.group_rules.specs.Step.{Apply, Ask, Comes, Crash, Deed, Does, Flush, Input as Begins, ListTree, Power, Suspect, Tick, list_of, step}
use Rattle.group_safety.proofs.Moving.{its}
use Rattle.group_safety.proofs.Safe.{good_of, input_goes, sent_known}
use Rattle.group_safety.proofs.Steps.{Known}
use Rattle.group_safety.specs.Laws.{Whole}
use Rattle.group_safety.specs.Words.{IsActive}
use Rattle.harp_types.specs.declared.call.Call.{Call}
use Rattle.harp_types.specs.declared.cred.Cred.{Cred}
use Rattle.harp_types.specs.declared.peer.Peer.{Peer}
use Rattle.world_laws.proofs.Answered.{MayAnswer, answers_few}
use Rattle.world_laws.proofs.Peers.{asks_refuse_one, others_refuse_none}
use Rattle.world_laws.proofs.Waits.{HasAsker, moves_wait}
use Rattle.world_laws.specs.Begins.{MayBegin}
use Rattle.world_laws.specs.Waits.{HasWaits, StepsWait}
use Rattle.world_rules.specs.Spellings.{spellings}
use Rattle.world_rules.specs.Steps.{moves_at, peers_by}
use Rattle.node.specs.Input.{came, input_of}
use Rattle.node.specs.Stock.{Stock}
use Rattle.node.specs.declared.input.Input.{Input}
use Rattle.node.specs.declared.input.Input.TheVariants as input
use Rattle.node_outputs.specs.Messages.{heard}
use Rattle.trace_laws.proofs.MoveKinds.{IsMild}
use Rattle.trace_laws.proofs.StepKinds.{OfEach, kind_each, step_kind}

-- ---- what begins a step, and who waits for its answers

pub known : (g : Group Entry) → Whole g → (q : Place) (i : Begins) → MayBegin g q i → Known g q i
known g w q (Does d) b = tt
known g w q (Comes from m) b =
    sent_known g w b.0 (record { from = from; to = q; body = m }) b.1

comes_alone : (p : Place) (o : Option (Message Entry)) (d : Deed)
    → option_map (Comes p) o ≡ Some (Does d) → ⊥
comes_alone p None d e = cc
comes_alone p (Some m) d e = cc

one_asks : (k : Stock) (given : Input) (client number : ℕ) (cred : Cred) (call : Call)
    → input_of given ≡ Some (Does (Ask client number cred call))
    → length (peers_by k given) ≡ 1
one_asks k input.Tick client number cred call e = cc
one_asks k input.Suspect client number cred call e = cc
one_asks k (input.Message from message) client number cred call e =
    absurd (comes_alone _ (heard message) (Ask client number cred call) e)
one_asks k (input.Ask peer c n r a) client number cred call e = refl
one_asks k (input.Apply most) client number cred call e = cc
one_asks k input.Flush client number cred call e = cc
one_asks k input.List client number cred call e = cc

all_wait : (k : Stock) (given : Input) (from : Place) (m : Message Entry)
    → input_of given ≡ Some (Comes from m) → peers_by k given ≡ k.waits
all_wait k input.Tick from m e = refl
all_wait k input.Suspect from m e = refl
all_wait k (input.Message sender message) from m e = refl
all_wait k (input.Ask peer c n r a) from m e = cc
all_wait k (input.Apply most) from m e = cc
all_wait k input.Flush from m e = cc
all_wait k input.List from m e = cc

-- ---- answers

-- the partner of an open leader has no more records than it
acked_within : (g : Group Entry) → Whole g → (q : Place) → (g.server q).mode ≡ Open
    → (from : Place) (t lb until : ℕ)
    → MayBegin g q (Comes from (Ack (g.server q).accepted t lb until)) → t ≤ top (g.server q)
acked_within g w q o from t lb until b =
    let s = g.server q in
    let h = good_of g w q in
    let active : IsActive s.mode = subst (λ (m : Mode). IsActive m) (sym o) tt in
    let holds = ((its h).logs.log ((its h).modes.active active).0).holds in
    let body = (known g w q (Comes from (Ack s.accepted t lb until)) b).0 in
    omega (arith, holds.held_twice, body.3)

may_answer : (g : Group Entry) → Whole g → (q : Place) (k : Stock) → HasWaits (g.server q) k
    → (given : Input) (i : Begins) → input_of given ≡ Some i → MayBegin g q i
    → MayAnswer (g.server q) i (length (peers_by k given))
may_answer g w q k h given i e b = record {
  ask = λ client number cred call is. le_of_eq (sym (one_asks k given client number cred call
      (subst (λ (i : Begins). input_of given ≡ Some i) is e)));
  ack = λ from t lb until o is.
      let within = acked_within g w q o from t lb until (subst (MayBegin g q) is b) in
      let all = ap (λ (ps : List Peer). length ps) (all_wait k given from _
      (subst (λ (i : Begins). input_of given ≡ Some i) is e)) in
      omega (arith, within, all, h o);
}

-- ---- refusals

refuses : (size : List Entry → Entry → ℕ) (q : Place) (clock : ℕ) (list : List Entry)
    (s : Server Entry) (k : Stock) (given : Input) (i : Begins) → input_of given ≡ Some i
    → length (refusals_said (step size q clock list s i)) ≤ length (peers_by k given)
refuses size q clock list s k given (Does (Ask client number cred call)) e =
    omega (
      arith,
      one_asks k given client number cred call e,
      asks_refuse_one size q clock list s client number cred call,
    )
refuses size q clock list s k given (Does Tick) e =
    omega (arith, others_refuse_none size q clock list s (Does Tick) tt)
refuses size q clock list s k given (Does Suspect) e =
    omega (arith, others_refuse_none size q clock list s (Does Suspect) tt)
refuses size q clock list s k given (Does (Apply n)) e =
    omega (arith, others_refuse_none size q clock list s (Does (Apply n)) tt)
refuses size q clock list s k given (Does Flush) e =
    omega (arith, others_refuse_none size q clock list s (Does Flush) tt)
refuses size q clock list s k given (Does ListTree) e =
    omega (arith, others_refuse_none size q clock list s (Does ListTree) tt)
refuses size q clock list s k given (Does Power) e =
    omega (arith, others_refuse_none size q clock list s (Does Power) tt)
refuses size q clock list s k given (Does Crash) e =
    omega (arith, others_refuse_none size q clock list s (Does Crash) tt)
refuses size q clock list s k given (Comes from m) e =
    omega (arith, others_refuse_none size q clock list s (Comes from m) tt)

-- ---- those who wait

mild_asked : (askers : List Peer) (m : Move Entry) → IsMild m → HasAsker askers m
mild_asked askers (Appending e) h = absurd h
mild_asked askers m h = tt

asked : (s : Server Entry) (k : Stock) (given : Input) (i : Begins) → input_of given ≡ Some i
    → OfEach s i (HasAsker (peers_by k given))
asked s k given i e = record {
  quiet = mild_asked (peers_by k given);
  accept = λ plan q n. tt;
  heed = λ items cp base. tt;
  append = λ x is. le_of_eq (sym (one_asks k given x.client x.number x.cred x.call
      (subst (λ (i : Begins). input_of given ≡ Some i) is e)));
  read = λ n x. tt;
  answer = λ n x. tt;
  note = λ t lb until. tt;
  commit = λ t. tt;
}

pub steps_wait : StepsWait
steps_wait g w q up k h given i e b =
    let s = g.server q in
    let size = (measures_of spellings).size in
    let kind = step_kind size q (g.clock q) (list_of g q) s i in
    record {
      answers = answers_few q (g.clock q) s i (length (peers_by k given))
          (may_answer g w q k h given i e b) (moves_at g q i) kind;
      refusals = refuses size q (g.clock q) (list_of g q) s k given i e;
      after = moves_wait (moves_at g q i) g q s (input_goes size g w q up i (known g w q i b))
          (list_of g q) (came given) (peers_by k given)
          (kind_each q (g.clock q) s i (HasAsker (peers_by k given)) (asked s k given i e)
          (moves_at g q i) kind) k h;
    }
