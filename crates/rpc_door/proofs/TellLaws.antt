-- What a group tells behind a door, in other words.
use Rattle.std.proofs.Common.{◌≡◌, ◌+◌, ◌≤◌, ℕ, List, [], ◌∷◌, ◌++◌, length, length-append, Option, Result, Ok, Err, arith, inl, inr, refl, sym, subst}
use Rattle.std.specs.List.{AllByRecursion}
use Rattle.harp_types.specs.declared.call.Call.{Call}
use Rattle.harp_types.specs.declared.cred.Cred.{Cred}
use Rattle.rpc_door.specs.Group.{Tells, TellsMore, Unanswered}
use Rattle.rpc_door.specs.Meaning.{meaning_of}
use Rattle.rpc_door.specs.Serving.{AreAnswered, DoorEnds, HaveServed, HaveServedInPart, IsAnsweredBy, Side, most_records, of_group, side}
use Rattle.rpc_door.specs.declared.fault.DoorFault.{DoorFault}
use Rattle.rpc_door.specs.declared.fault.DoorFault.TheVariants as door
use Rattle.rpc_door.specs.declared.group.Exchange.{Exchange}
use Rattle.rpc_door.specs.declared.group.GroupFault.{GroupFault}
use Rattle.rpc_door.specs.declared.group.GroupFault.TheVariants as group
use Rattle.rpc_door.specs.declared.meaning.RpcIn.{RpcIn}
use Rattle.rpc_door.specs.declared.meaning.RpcIn.TheVariants.{Silent, Fixed, Ask}

-- ---- whose calls were made, and how many

-- calls of this user and group, at most so many
abbrev pub AreBy : Cred → ℕ → List Exchange → Type 0
AreBy cred most made = AllByRecursion (λ x. x.cred ≡ cred) made × (length made ≤ most)

all_then : (cred : Cred) (xs ys : List Exchange) → AllByRecursion (λ x. x.cred ≡ cred) xs
    → AllByRecursion (λ x. x.cred ≡ cred) ys → AllByRecursion (λ x. x.cred ≡ cred) (xs ++ ys)
all_then cred [] ys p q = q
all_then cred (x ∷ xs) ys p q = (p.0, all_then cred xs ys p.1 q)

by_then : (cred : Cred) (m n : ℕ) (xs ys : List Exchange) → AreBy cred m xs → AreBy cred n ys
    → AreBy cred (m + n) (xs ++ ys)
by_then cred m n xs ys p q =
    (all_then cred xs ys p.0 q.0, omega (arith, p.1, q.1, length-append xs ys))

by_none : (cred : Cred) (m : ℕ) (made : List Exchange) → made ≡ [] → AreBy cred m made
by_none cred m made none = subst (AreBy cred m) (sym none) (tt, omega arith)

by_one : (cred : Cred) (means : RpcIn) (made : List Exchange) (written : List ℕ)
    → IsAnsweredBy cred means made written → AreBy cred 1 made
by_one cred Silent made written h = by_none cred 1 made h.0
by_one cred (Fixed answer) made written h = by_none cred 1 made h.0
by_one cred (Ask xid c) made written h =
    subst (AreBy cred 1) (sym h.2) ((refl, tt), omega arith)

by_all : (cred : Cred) (records : List (List ℕ)) (made : List Exchange) (bytes : List ℕ)
    → AreAnswered cred records made bytes → AreBy cred (length records) made
by_all cred [] made bytes h = by_none cred 0 made h.0
by_all cred (r ∷ rs) made bytes h =
    let both = by_then cred 1 (length rs) h.0 h.1 (by_one cred (meaning_of r) h.0 h.2 h.4)
    (by_all cred rs h.1 h.3 h.5) in
    subst (AreBy cred (length (r ∷ rs))) (sym h.6) (both.0, omega (arith, both.1))

-- at most those of an input and one more
abbrev pub AreFew : Cred → List Exchange → Type 0
AreFew cred made = AreBy cred (most_records + 1) made

few_of : (cred : Cred) (n : ℕ) (made : List Exchange) → n ≤ most_records + 1 → AreBy cred n made
    → AreFew cred made
few_of cred n made few h = (h.0, omega (arith, few, h.1))

-- ---- what is told in other words

-- a door that ended so, where what its group tells gives what is told in these other words
module _ {S T : Type 0} (cred : Cred) (input : List ℕ) (source : Option (List ℕ)) (old new : Side S)
    (was now : Tells T) (never left : Unanswered T) where
  abbrev pub Says : Type 0
  Says = (made : List Exchange) → AreFew cred made → TellsMore old.told new.told made
      → TellsMore was now made

  -- what is told of a call that is left for this reason
  abbrev pub Leaves : GroupFault → Type 0
  Leaves why = (made : List Exchange) (c : Call) → AreFew cred made
      → ((s : S) (before : List Exchange) → old.told s before
      → new.unanswered why s (before ++ made) cred c)
      → (s : T) (before : List Exchange) → was s before → left why s (before ++ made) cred c

  abbrev opened : Side T
  opened = side was never old.written

  abbrev behind : Side T
  behind = side now left new.written

  module _ (says : Says) where
    few_served : (records : List (List ℕ)) (rest : List ℕ)
        → (h : HaveServed cred input old new records rest) → AreFew cred h.made
    few_served records rest h = few_of cred (length records) h.made (omega (arith, h.few))
        (by_all cred records h.made h.bytes h.answered)

    served : (records : List (List ℕ)) (rest : List ℕ)
        → HaveServed cred input old new records rest
        → HaveServed cred input opened behind records rest
    served records rest h = record {
      made = h.made;
      bytes = h.bytes;
      few = h.few;
      read = h.read;
      answered = h.answered;
      told = says h.made (few_served records rest h) h.told;
      wrote = h.wrote;
    }

    in_part : HaveServedInPart cred input old new → HaveServedInPart cred input opened behind
    in_part h =
        let both = by_then cred (length h.records) 1 h.made h.made_last
        (by_all cred h.records h.made h.bytes h.answered)
        (by_one cred (meaning_of h.last) h.made_last h.bytes_last h.answered_last) in
        let few = few_of cred (length h.records + 1) (h.made ++ h.made_last) (omega (arith, h.few))
        both in
        record {
          records = h.records;
          last = h.last;
          rest = h.rest;
          made = h.made;
          bytes = h.bytes;
          made_last = h.made_last;
          bytes_last = h.bytes_last;
          count = h.count;
          few = h.few;
          read = h.read;
          answered = h.answered;
          answered_last = h.answered_last;
          told = says (h.made ++ h.made_last) few h.told;
          wrote = h.wrote;
        }

    pub door_ends : (r : Result ℕ DoorFault)
        → ((why : GroupFault) → r ≡ Err (of_group why) → (why ≡ group.NoMemory → ⊥) → Leaves why)
        → DoorEnds cred input source old new r → DoorEnds cred input source opened behind r
    unfolding served
    door_ends (Ok number) leaves h = record {
      records = h.records;
      served = served h.records [] h.served;
      number_is = h.number_is;
      few = h.few;
      source_is = h.source_is;
    }
    door_ends (Err door.ReadFault) leaves h = record {
      records = h.records;
      begun = h.begun;
      rest = h.rest;
      served = served h.records (h.begun ++ h.rest) h.served;
      part = h.part;
      source_is = h.source_is;
    }
    door_ends (Err door.WriteFault) leaves h = in_part h
    door_ends (Err (door.BadRecord number)) leaves h = record {
      records = h.records;
      rest = h.rest;
      served = served h.records h.rest h.served;
      number_is = h.number_is;
      bad = h.bad;
    }
    door_ends (Err door.GroupFailed) leaves h = record {
      records = h.records;
      next = h.next;
      rest = h.rest;
      more = h.more;
      xid = h.xid;
      call = h.call;
      served = served h.records h.rest h.served;
      is_next = h.is_next;
      asks = h.asks;
      left = leaves group.Failed refl (λ is. absurd cc) h.served.made h.call (few_served h.records h.rest h.served)
          h.left;
    }
    door_ends (Err door.GroupSpent) leaves h = record {
      records = h.records;
      next = h.next;
      rest = h.rest;
      more = h.more;
      xid = h.xid;
      call = h.call;
      served = served h.records h.rest h.served;
      is_next = h.is_next;
      asks = h.asks;
      left = leaves group.Spent refl (λ is. absurd cc) h.served.made h.call (few_served h.records h.rest h.served)
          h.left;
    }
    door_ends (Err door.NoMemory) leaves (inl h) = inl (h.0, h.1, served h.0 h.1 h.2)
    door_ends (Err door.NoMemory) leaves (inr h) = inr (in_part h)
