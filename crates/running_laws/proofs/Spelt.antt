-- Messages without records, as servers that run would send them.
use Rattle.std.proofs.Common.{◌≡◌, ℕ, Bool, List, [], ◌∷◌, ◌++◌, flat_map, map, Option, Some, refl, ap, ◌∙◌}
use Rattle.std.specs.List.{AllByRecursion}
use Rattle.event_record.specs.declared.record.RecordFields.{RecordFields}
use Rattle.file_tree.specs.Book.{Entry}
use Rattle.group_rules.specs.Moves.{Move, Sending}
use Rattle.group_rules.specs.Names.{id_of, number_of_view, place_of, view_of}
use Rattle.group_rules.specs.Places.{Zero, One, Two, Pair, Place, S01, S02, S12}
use Rattle.group_rules.specs.Said.{sends_said}
use Rattle.group_rules.specs.State.{Ack, Beat, Demote, Empty, Event, Fetch, Form, Formed, Give, Held, Invite, Join, Log, Lost, Message, Plan, Report}
use Rattle.node.proofs.Collects.{view_number}
use Rattle.node_outputs.specs.Messages.{as_heard, heard, held_heard, pair_heard}
use Rattle.node_outputs.specs.Records.{carried}
use Rattle.node_outputs.specs.Said.{sent}
use Rattle.node_outputs.specs.declared.outputs.Sent.{Sent}
use Rattle.world_rules.specs.Spellings.{held_told, storers_told, told_as}
use Rattle.running_laws.proofs.Bare.{AreBare, HasNoRecords}

-- ---- parts

held_back : (h : Held) → held_heard (held_told h) ≡ h
held_back Empty = refl
held_back Log = refl
held_back Lost = refl

pair_back : (pair : Pair) → pair_heard (storers_told pair) ≡ pair
pair_back S01 = refl
pair_back S02 = refl
pair_back S12 = refl

place_back : (q : Place) → place_of (id_of q) ≡ q
place_back Zero = refl
place_back One = refl
place_back Two = refl

-- ---- messages

joined_back : (v : ℕ) (t : Report) → heard (told_as [] (Join v t)) ≡ Some (Join v t)
joined_back v t = ap (λ (n : ℕ). Some (Join n (record t {
  held = held_heard (held_told t.held);
  accepted = number_of_view (view_of t.accepted);
}))) (view_number v)
    ∙ ap (λ (h : Held). Some (Join v (record t {
      held = h;
      accepted = number_of_view (view_of t.accepted);
    }))) (held_back t.held)
    ∙ ap (λ (n : ℕ). Some (Join v (record t { accepted = n }))) (view_number t.accepted)

formed_back : (v : ℕ) (plan : Plan) → heard (told_as [] (Form v plan)) ≡ Some (Form v plan)
formed_back v plan = ap (λ (n : ℕ). Some (Form n (record plan {
  storers = pair_heard (storers_told plan.storers);
  source = place_of (id_of plan.source);
}))) (view_number v)
    ∙ ap (λ (pair : Pair). Some (Form v (record plan {
      storers = pair;
      source = place_of (id_of plan.source);
    }))) (pair_back plan.storers)
    ∙ ap (λ (q : Place). Some (Form v (record plan { source = q }))) (place_back plan.source)

-- a server hears it
heard_back : (m : Message Entry) → HasNoRecords m → heard (told_as [] m) ≡ Some m
heard_back (Invite v) h = ap (λ (n : ℕ). Some (Invite n)) (view_number v)
heard_back (Join v t) h = joined_back v t
heard_back (Form v plan) h = formed_back v plan
heard_back (Fetch v index) h = ap (λ (n : ℕ). Some (Fetch n index)) (view_number v)
heard_back (Give v index items) h = absurd h
heard_back (Formed v lb) h = ap (λ (n : ℕ). Some (Formed n lb)) (view_number v)
heard_back (Event v index cp base e) h = absurd h
heard_back (Beat v cp base) h = ap (λ (n : ℕ). Some (Beat n cp base)) (view_number v)
heard_back (Ack v top lb until) h = ap (λ (n : ℕ). Some (Ack n top lb until)) (view_number v)
heard_back (Demote v) h = ap (λ (n : ℕ). Some (Demote n)) (view_number v)

none_carried : (m : Message Entry) → HasNoRecords m → carried (told_as [] m) ≡ []
none_carried (Give v index items) h = absurd h
none_carried (Event v index cp base e) h = absurd h
none_carried m h = refl

-- ---- all that a step sends

abbrev sent_of : Place × Message Entry → Sent
sent_of x = record { to = id_of x.0; message = told_as [] x.1 }

abbrev pub sents_of : List (Move Entry) → List Sent
sents_of ms = map sent_of (sends_said ms)

abbrev AreRecordless : List (Place × Message Entry) → Type 0
AreRecordless xs = AllByRecursion (λ (x : Place × Message Entry). HasNoRecords x.1) xs

bare_sent : (f : Bool) (ms : List (Move Entry)) → AreBare f ms → AreRecordless (sends_said ms)
bare_sent f [] h = tt
bare_sent f (Sending to m ∷ ms) h = (h.0, bare_sent f ms h.1)
bare_sent f (m ∷ ms) h = bare_sent f ms h.1

one_back : (x : Place × Message Entry) → HasNoRecords x.1 → sent (sent_of x) ≡ as_heard x
one_back x h = ap (λ (q : Place). (q, heard (told_as [] x.1))) (place_back x.0)
    ∙ ap (λ (o : Option (Message Entry)). (x.0, o)) (heard_back x.1 h)

each_back : (xs : List (Place × Message Entry)) → AreRecordless xs
    → map sent (map sent_of xs) ≡ map as_heard xs
each_back [] h = refl
each_back (x ∷ xs) h =
    ap (λ (y : Place × Option (Message Entry)). y ∷ map sent (map sent_of xs)) (one_back x h.0)
    ∙ ap (λ (ys : List (Place × Option (Message Entry))). as_heard x ∷ ys) (each_back xs h.1)

-- THEY ARE HEARD as the step says
pub sents_heard : (f : Bool) (ms : List (Move Entry)) → AreBare f ms
    → map sent (sents_of ms) ≡ map as_heard (sends_said ms)
sents_heard f ms h = each_back (sends_said ms) (bare_sent f ms h)

none_carry : (xs : List (Place × Message Entry)) → AreRecordless xs
    → flat_map (λ (s : Sent). carried s.message) (map sent_of xs) ≡ []
none_carry [] h = refl
none_carry (x ∷ xs) h = ap (λ (rs : List RecordFields).
    rs ++ flat_map (λ (s : Sent). carried s.message) (map sent_of xs)) (none_carried x.1 h.0)
    ∙ none_carry xs h.1

-- and carry nothing
pub sents_carry : (f : Bool) (ms : List (Move Entry)) → AreBare f ms
    → flat_map (λ (s : Sent). carried s.message) (sents_of ms) ≡ []
sents_carry f ms h = none_carry (sends_said ms) (bare_sent f ms h)
