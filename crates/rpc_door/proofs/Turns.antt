-- Turns of a door, one after the other.
use Rattle.std.proofs.Common.{◌≡◌, ℕ, ◌+◌, ◌-◌, ◌≤◌, List, [], ◌∷◌, ◌++◌, Option, Some, None, Ok, Err, ap, append_assoc, arith, inl, inr, length, length-append, refl, subst, sym, take, ◌∙◌}
use Rattle.std.proofs.lemmas.List.{append-nil}
use Rattle.std.specs.Prelude.{◌≢◌, IfErr, Result}
use Rattle.std.specs.Io.KnownBytes.{Appends, Keeps, prepend_known}
use Rattle.harp_types.specs.declared.cred.Cred.{Cred}
use Rattle.rpc_door.specs.declared.fault.DoorFault.{DoorFault}
use Rattle.rpc_door.specs.declared.fault.DoorFault.TheVariants as door
use Rattle.rpc_door.specs.declared.group.Exchange.{Exchange}
use Rattle.rpc_door.specs.declared.group.GroupFault.{GroupFault}
use Rattle.rpc_door.specs.declared.group.GroupFault.TheVariants as group
use Rattle.rpc_door.specs.Group.{Counts, IsCounted, Tells, TellsMore, Unanswered}
use Rattle.rpc_door.specs.Marks.{Short, Whole, front}
use Rattle.rpc_door.specs.Serving.{AnswersOne, AreAnswered, AreRecords, DoesNothing, DoorEnds, GoesOn, HaveServed, HaveServedInPart, IsAnswered, Side, StopsAmid, StopsInAnswer, TurnStops, FaultsStay, Faults, IsCaused, faults, most_records, of_group, side}
use Rattle.rpc_door.proofs.Fronts.{front_ends, mark_short}

-- ---- bytes that are written

pub appends_none : (w : Option (List ℕ)) → Appends w w []
appends_none None = tt
appends_none (Some x) = sym (append-nil x)

pub appends_then : (a b c : Option (List ℕ)) (x y : List ℕ) → Appends a b x → Appends b c y
    → Appends a c (x ++ y)
appends_then None b c x y p q = tt
appends_then (Some a) None c x y p q = absurd p
appends_then (Some a) (Some b) None x y p q = absurd q
appends_then (Some a) (Some b) (Some c) x y p q =
    q ∙ ap (λ (s : List ℕ). s ++ y) p ∙ append_assoc a x y

-- ---- calls that are told

pub tells_none : {S : Type 0} (told : Tells S) → TellsMore told told []
tells_none told start before h = subst (told start) (sym (append-nil before)) h

pub tells_then : {S : Type 0} (a b c : Tells S) (x y : List Exchange) → TellsMore a b x
    → TellsMore b c y → TellsMore a c (x ++ y)
tells_then a b c x y p q start before h =
    subst (c start) (append_assoc before x y) (q start (before ++ x) (p start before h))

-- ---- one turn

pub nothing_done : {S : Type 0} (told : Tells S) (u v : Unanswered S) (w : Option (List ℕ))
    → DoesNothing (side told u w) (side told v w)
nothing_done told u v w = record { told = tells_none told; wrote = appends_none w }

-- no record stands at the front of no bytes
pub record_some : (bytes given more : List ℕ) → front bytes ≡ Whole given more → bytes ≢ []
record_some bytes given more is none =
    let short : front [] ≡ Short = front_ends 999 20000 [] (mark_short 20000 [] (omega arith)) in
    let clash : Short ≡ Whole given more = sym short ∙ ap front (sym none) ∙ is in
    absurd cc

behind_none : (held left : List ℕ) → held ++ left ≡ [] → left ≡ []
behind_none [] left e = e
behind_none (h ∷ held) left e = absurd cc

pub source_empty : (bytes held : List ℕ) (left : Option (List ℕ))
    → Keeps (Some bytes) (prepend_known held left) → bytes ≡ [] → left ≡ Some []
source_empty bytes held None k e = absurd k
source_empty bytes held (Some left) k e = ap Some (behind_none held left (k ∙ e))

-- nothing of the record was taken
pub amid_at_once : (bytes held : List ℕ) (left : Option (List ℕ)) → held ≡ []
    → Keeps (Some bytes) (prepend_known held left) → StopsAmid bytes left
amid_at_once bytes held None none k = absurd k
amid_at_once bytes held (Some rest) none k = record {
  begun = [];
  rest = rest;
  bytes_are = sym k ∙ ap (λ (s : List ℕ). s ++ rest) none;
  part = front_ends 999 20000 [] (mark_short 20000 [] (omega arith));
  source_is = refl;
}

-- ---- turns

records_push : (input : List ℕ) (rs : List (List ℕ)) (rest r more : List ℕ)
    → AreRecords input rs rest → front rest ≡ Whole r more → AreRecords input (rs ++ r ∷ []) more
records_push input [] rest r more e is = (more, subst (λ (b : List ℕ). front b ≡ Whole r more) e is, refl)
records_push input (x ∷ rs) rest r more h is =
    (h.0, h.1, records_push h.0 rs rest r more h.2 is)

answered_push : (cred : Cred) (rs : List (List ℕ)) (r : List ℕ) (made made' : List Exchange)
    (bytes bytes' : List ℕ) → AreAnswered cred rs made bytes → IsAnswered cred r made' bytes'
    → AreAnswered cred (rs ++ r ∷ []) (made ++ made') (bytes ++ bytes')
answered_push cred [] r made made' bytes bytes' h one = (
  made',
  [],
  bytes',
  [],
  one,
  (refl, refl),
  ap (λ (xs : List Exchange). xs ++ made') h.0 ∙ sym (append-nil made'),
  ap (λ (xs : List ℕ). xs ++ bytes') h.1 ∙ sym (append-nil bytes'),
)
answered_push cred (x ∷ rs) r made made' bytes bytes' h one = (
  h.0,
  h.1 ++ made',
  h.2,
  h.3 ++ bytes',
  h.4,
  answered_push cred rs r h.1 made' h.3 bytes' h.5 one,
  ap (λ (xs : List Exchange). xs ++ made') h.6 ∙ append_assoc h.0 h.1 made',
  ap (λ (xs : List ℕ). xs ++ bytes') h.7 ∙ append_assoc h.2 h.3 bytes',
)

length_push : (rs : List (List ℕ)) (r : List ℕ) → length (rs ++ r ∷ []) ≡ length rs + 1
length_push rs r = length-append rs (r ∷ [])

module _ {S : Type 0} (cred : Cred) (input : List ℕ) (number : ℕ) (left : Option (List ℕ))
    (old mid : Side S)
    (g : GoesOn cred input number left old mid) where
  pub goes_more : (after : Option (List ℕ)) (new : Side S) → AnswersOne cred g.rest after mid new
      → number ≤ most_records → GoesOn cred input (number + 1) after old new
  goes_more after new one few = record {
    records = g.records ++ one.next ∷ [];
    rest = one.rest;
    left_is = one.left_is;
    number_is = omega (arith, g.number_is, length_push g.records one.next);
    served = record {
      made = g.served.made ++ one.made;
      bytes = g.served.bytes ++ one.answer;
      few = omega (arith, few, g.number_is, length_push g.records one.next);
      read = records_push input g.records g.rest one.next one.rest g.served.read one.is_next;
      answered = answered_push cred g.records one.next g.served.made one.made g.served.bytes
          one.answer g.served.answered one.answered;
      told = tells_then old.told mid.told new.told g.served.made one.made g.served.told one.told;
      wrote = appends_then old.written mid.written new.written g.served.bytes one.answer
          g.served.wrote one.wrote;
    };
  }

  -- nothing more was done
  served_still : (new : Side S) → DoesNothing mid new → HaveServed cred input old new g.records g.rest
  served_still new none = record {
    made = g.served.made;
    bytes = g.served.bytes;
    few = g.served.few;
    read = g.served.read;
    answered = g.served.answered;
    told = subst (TellsMore old.told new.told) (append-nil g.served.made)
        (tells_then old.told mid.told new.told g.served.made [] g.served.told none.told);
    wrote = subst (Appends old.written new.written) (append-nil g.served.bytes)
        (appends_then old.written mid.written new.written g.served.bytes [] g.served.wrote
        none.wrote);
  }

  pub ends_well : (source : Option (List ℕ)) (new : Side S) → number ≤ most_records + 1
      → g.rest ≡ [] → source ≡ Some [] → DoesNothing mid new
      → DoorEnds cred input source old new (Ok (number - 1))
  ends_well source new few none end still = record {
    records = g.records;
    served = subst (HaveServed cred input old new g.records) none (served_still new still);
    number_is = omega (arith, g.number_is);
    few = omega arith;
    source_is = end;
  }

  pub stops_in_part : (new : Side S) → StopsInAnswer cred g.rest mid new
      → HaveServedInPart cred input old new
  stops_in_part new s = record {
    records = g.records;
    last = s.next;
    rest = s.rest;
    made = g.served.made;
    bytes = g.served.bytes;
    made_last = s.made;
    bytes_last = s.answer;
    count = s.count;
    few = g.served.few;
    read = records_push input g.records g.rest s.next s.rest g.served.read s.is_next;
    answered = g.served.answered;
    answered_last = s.answered;
    told = tells_then old.told mid.told new.told g.served.made s.made g.served.told s.told;
    wrote = appends_then old.written mid.written new.written g.served.bytes
        (take s.count s.answer) g.served.wrote s.wrote;
  }

  pub door_stops : (source : Option (List ℕ)) (new : Side S) (fault : DoorFault)
      → number ≤ most_records + 1 → TurnStops cred g.rest number source mid new fault
      → DoorEnds cred input source old new (Err fault)
  unfolding served_still
  door_stops source new door.ReadFault few h = record {
    records = g.records;
    begun = h.0.begun;
    rest = h.0.rest;
    served = subst (HaveServed cred input old new g.records) h.0.bytes_are (served_still new h.1);
    part = h.0.part;
    source_is = h.0.source_is;
  }
  door_stops source new door.WriteFault few h = stops_in_part new h
  door_stops source new (door.BadRecord n) few h = record {
    records = g.records;
    rest = g.rest;
    served = served_still new h.2;
    number_is = h.0 ∙ g.number_is;
    bad = elim h.1 [
      | inl broken ↦ inl broken
      | inr past ↦ inr (omega (arith, past.0, g.number_is), past.1)
    ];
  }
  door_stops source new door.GroupFailed few h = record {
    records = g.records;
    next = h.0.next;
    rest = g.rest;
    more = h.0.rest;
    xid = h.0.xid;
    call = h.0.call;
    served = served_still new h.1;
    is_next = h.0.is_next;
    asks = h.0.asks;
    left = λ start before told. h.0.left start (before ++ g.served.made)
        (g.served.told start before told);
  }
  door_stops source new door.GroupSpent few h = record {
    records = g.records;
    next = h.0.next;
    rest = g.rest;
    more = h.0.rest;
    xid = h.0.xid;
    call = h.0.call;
    served = served_still new h.1;
    is_next = h.0.is_next;
    asks = h.0.asks;
    left = λ start before told. h.0.left start (before ++ g.served.made)
        (g.served.told start before told);
  }
  door_stops source new door.NoMemory few (inl none) =
      inl (g.records, g.rest, served_still new none)
  door_stops source new door.NoMemory few (inr part) = inr (stops_in_part new part)

-- nothing was read yet
pub goes_first : {S : Type 0} (cred : Cred) (input : List ℕ) (left : Option (List ℕ)) (s : Side S)
    → left ≡ Some input → GoesOn cred input 1 left s s
unfolding most_records
goes_first cred input left s is = record {
  records = [];
  rest = input;
  left_is = is;
  number_is = refl;
  served = record {
    made = [];
    bytes = [];
    few = omega arith;
    read = refl;
    answered = (refl, refl);
    told = tells_none s.told;
    wrote = appends_none s.written;
  };
}

-- ---- faults

pub stays_then : (a b c : Faults) → FaultsStay a b → FaultsStay b c → FaultsStay a c
stays_then a b c p q = (
  omega (arith, p.0, q.0),
  omega (arith, p.1, q.1),
  (omega (arith, p.2.0, q.2.0), omega (arith, p.2.1, q.2.1)),
)

-- what was counted before the fault stays
pub caused_then : (a b c : Faults) (why : DoorFault) → FaultsStay a b → IsCaused why b c
    → IsCaused why a c
caused_then a b c door.ReadFault p q = omega (arith, p.0, q)
caused_then a b c door.WriteFault p q = omega (arith, p.1, q)
caused_then a b c (door.BadRecord n) p q = tt
caused_then a b c door.GroupFailed p q = omega (arith, p.2.0, q)
caused_then a b c door.GroupSpent p q = omega (arith, p.2.1, q)
caused_then a b c door.NoMemory p q = tt

pub caused_behind : {A : Type 0} (result : Result A DoorFault) (a b c : Faults) → FaultsStay a b
    → IfErr result (λ why. IsCaused why b c) → IfErr result (λ why. IsCaused why a c)
caused_behind (Ok x) a b c p q = tt
caused_behind (Err why) a b c p q = caused_then a b c why p q

pub caused_by_group : (why : GroupFault) (reads writes : ℕ) (old new : Counts)
    → IsCounted why old new → IsCaused (of_group why) (faults reads writes old) (faults reads writes new)
caused_by_group group.Failed reads writes old new h = h
caused_by_group group.Spent reads writes old new h = h
caused_by_group group.NoMemory reads writes old new h = tt
