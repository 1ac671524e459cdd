-- The messages that a server's outputs have are those that its moves send: what they come to among
-- the packets and in lines.
use Rattle.std.proofs.Common.{◌≡◌, ℕ, zero, suc, ◌+◌, List, [], ◌∷◌, ◌++◌, append-nil, length, map, Option, None, Some, refl, sym, ap, ◌∙◌, subst, append_assoc}
use Rattle.std.specs.List.{flat_map}
use Rattle.std.proofs.lemmas.List.Elements.{Contains-append_left, Contains-append_right}
use Rattle.std.proofs.lemmas.List.Sums.{sum_by-cons}
use Rattle.event_record.specs.declared.record.RecordFields.{RecordFields}
use Rattle.file_tree.specs.Book.{Entry}
use Rattle.world_lines.specs.Given.{packet_of, packets_of, sent_line, sent_lines}
use Rattle.group_rules.specs.Names.{id_of, place_of}
use Rattle.group_rules.specs.Places.{Place}
use Rattle.group_rules.specs.State.{Message, Packet, Page}
use Rattle.group_safety.specs.Words.{Each}
use Rattle.group_trace.specs.Lines.{packet_lines}
use Rattle.group_trace.specs.Shown.{message_shown}
use Rattle.harp_types.specs.declared.server.ServerId.{ServerId}
use Rattle.idle_log.specs.Gives.{StandIn}
use Rattle.node_outputs.specs.Messages.{as_heard, heard}
use Rattle.node_outputs.specs.Records.{carried}
use Rattle.node_outputs.specs.Said.{sent}
use Rattle.node_outputs.specs.declared.outputs.Sent.{Sent}
use Rattle.world_lines.specs.Machine.{StandFor}
use Rattle.world_lines.specs.Posted.{Posted, bytes_of, bytes_sent, posted}
use Rattle.world_lines.proofs.Machine.{sent_stand}
use Rattle.world_laws.specs.Stocks.{Carries}
use Rattle.store_laws.specs.Told.{OneForOne}
use Rattle.trace_types.specs.declared.line.Line.TheVariants as line
use Rattle.wire.specs.Messages.{message_bytes}
use Rattle.wire.specs.declared.message.Message.{Message as Wire}
use Rattle.world.specs.World.{AreCarried}
use Rattle.world.proofs.Moved.{bytes_in, sent_onto}
use Rattle.world.proofs.Tables.{id_there}

-- A MESSAGE OF OUTPUTS is one that moves send, with the records of its view's list, and has as many
-- bytes as the run says
pub record IsSent (page : ℕ → Page Entry) (bytes : Message Entry → ℕ) (s : Sent)
    (x : Place × Message Entry) : Type 0 where
  pub to : place_of s.to ≡ x.0
  pub hears : heard s.message ≡ Some x.1
  pub carries : Carries page x.1 (carried s.message)
  pub sized : length (message_bytes s.message) ≡ bytes x.1

abbrev pub AreSent : (ℕ → Page Entry) → (Message Entry → ℕ) → List Sent
    → List (Place × Message Entry) → Type 0
AreSent page bytes sends said = OneForOne (IsSent page bytes) sends said

-- where each message has what it has to have, and the records of all stand among some
pub are_sent : (page : ℕ → Page Entry) (bytes : Message Entry → ℕ) (all : List RecordFields)
    (P : Place × Message Entry → Type 0)
    → ((x : Place × Message Entry) (m : Wire) → P x → heard m ≡ Some x.1 → StandIn all (carried m)
    → Carries page x.1 (carried m) × (length (message_bytes m) ≡ bytes x.1))
    → (sends : List Sent) (said : List (Place × Message Entry))
    → map sent sends ≡ map as_heard said → Each P said
    → StandIn all (flat_map (λ (s : Sent). carried s.message) sends)
    → AreSent page bytes sends said
are_sent page bytes all P has [] [] e p stand = tt
are_sent page bytes all P has [] (x ∷ said) e p stand = absurd cc
are_sent page bytes all P has (s ∷ sends) [] e p stand = absurd cc
are_sent page bytes all P has (s ∷ sends) (x ∷ said) e p stand =
    let one : sent s ≡ as_heard x = cc in
    let rest : map sent sends ≡ map as_heard said = cc in
    let hears : heard s.message ≡ Some x.1 = ap (λ (y : Place × Option (Message Entry)). y.1) one in
    let both = has x s.message p.0 hears (λ r i. stand r (Contains-append_left _ _ r i)) in (
      record {
        to = ap (λ (y : Place × Option (Message Entry)). y.0) one;
        hears = hears;
        carries = both.0;
        sized = both.1;
      },
      are_sent page bytes all P has sends said rest p.1
          (λ r i. stand r (Contains-append_right (carried s.message) _ r i)),
    )

-- one of them is one packet
pub one_packet : (from : ServerId) (s : Sent) (m : Message Entry) → heard s.message ≡ Some m
    → packet_of from s ≡ posted from s.to s.message ∷ []
one_packet from s m e = ap (λ o. elim o [
  | None ↦ []
  | Some m ↦ posted from s.to s.message ∷ []
]) e

-- ---- packets

pub sends_stand : (page : ℕ → Page Entry) (bytes : Message Entry → ℕ) (from : ServerId)
    (sends : List Sent) (said : List (Place × Message Entry)) → AreSent page bytes sends said
    → (ps : List Posted) (packets : List (Packet Entry)) (numbers : List ℕ)
    → StandFor ps packets numbers
    → StandFor (ps ++ packets_of from sends) (sent_onto packets (place_of from) said) numbers
sends_stand page bytes from [] [] are ps packets numbers h =
    subst (λ xs. StandFor xs packets numbers) (sym (append-nil ps)) h
sends_stand page bytes from [] (x ∷ said) are ps packets numbers h = absurd are
sends_stand page bytes from (s ∷ sends) [] are ps packets numbers h = absurd are
sends_stand page bytes from (s ∷ sends) (x ∷ said) are ps packets numbers h =
    let new = posted from s.to s.message in
    let front : ps ++ packets_of from (s ∷ sends) ≡ (ps ++ new ∷ []) ++ packets_of from sends =
    ap (λ xs. ps ++ (xs ++ packets_of from sends)) (one_packet from s x.1 are.0.hears)
    ∙ sym (append_assoc ps (new ∷ []) (packets_of from sends)) in
    subst (λ xs. StandFor xs (sent_onto packets (place_of from) (x ∷ said)) numbers) (sym front)
    (sends_stand page bytes from sends said are.1 (ps ++ new ∷ [])
    (record { from = place_of from; to = x.0; body = x.1 } ∷ packets) numbers
    (subst (λ q. StandFor (ps ++ new ∷ []) (record { from = place_of from; to = q; body = x.1 }
    ∷ packets) numbers) are.0.to
    (sent_stand ps packets numbers from s.to s.message x.1 h are.0.hears)))

-- ---- records

pub carried_both : (page : ℕ → Page Entry) (xs ys : List Posted) → AreCarried page xs
    → AreCarried page ys → AreCarried page (xs ++ ys)
carried_both page [] ys a b n p m e f = b n p m e f
carried_both page (x ∷ xs) ys a b zero p m e f = a zero p m e f
carried_both page (x ∷ xs) ys a b (suc n) p m e f =
    carried_both page xs ys (λ n. a (suc n)) b n p m e f

pub none_carried : (page : ℕ → Page Entry) → AreCarried page []
none_carried page n p m e f = absurd cc

one_carried : (page : ℕ → Page Entry) (from : ServerId) (s : Sent) (body : Message Entry)
    → heard s.message ≡ Some body → Carries page body (carried s.message)
    → AreCarried page (posted from s.to s.message ∷ [])
one_carried page from s body hears c zero p m e f =
    let is : posted from s.to s.message ≡ p = cc in
    subst (λ (p : Posted). heard p.packet.message ≡ Some m
    → Carries page m (carried p.packet.message)) is (λ h.
    let same : body ≡ m = cc in
    subst (λ (x : Message Entry). Carries page x (carried s.message)) same c) f
one_carried page from s body hears c (suc n) p m e f = absurd cc

pub sends_carry : (page : ℕ → Page Entry) (bytes : Message Entry → ℕ) (from : ServerId)
    (sends : List Sent) (said : List (Place × Message Entry)) → AreSent page bytes sends said
    → AreCarried page (packets_of from sends)
sends_carry page bytes from [] [] are = none_carried page
sends_carry page bytes from [] (x ∷ said) are = absurd are
sends_carry page bytes from (s ∷ sends) [] are = absurd are
sends_carry page bytes from (s ∷ sends) (x ∷ said) are =
    subst (λ xs. AreCarried page (xs ++ packets_of from sends))
    (sym (one_packet from s x.1 are.0.hears))
    (carried_both page (posted from s.to s.message ∷ []) (packets_of from sends)
    (one_carried page from s x.1 are.0.hears are.0.carries)
    (sends_carry page bytes from sends said are.1))

-- ---- bytes

pub sends_count : (page : ℕ → Page Entry) (bytes : Message Entry → ℕ) (from : ServerId)
    (sends : List Sent) (said : List (Place × Message Entry)) → AreSent page bytes sends said
    → bytes_sent (packets_of from sends) ≡ bytes_in bytes said
sends_count page bytes from [] [] are = refl
sends_count page bytes from [] (x ∷ said) are = absurd are
sends_count page bytes from (s ∷ sends) [] are = absurd are
sends_count page bytes from (s ∷ sends) (x ∷ said) are =
    ap (λ xs. bytes_sent (xs ++ packets_of from sends)) (one_packet from s x.1 are.0.hears)
    ∙ sum_by-cons bytes_of (posted from s.to s.message) (packets_of from sends)
    ∙ ap (λ n. n + bytes_sent (packets_of from sends)) are.0.sized
    ∙ ap (λ n. bytes x.1 + n) (sends_count page bytes from sends said are.1)

-- ---- lines

pub sends_lines : (page : ℕ → Page Entry) (bytes : Message Entry → ℕ) (from : ServerId) (n : ℕ)
    (sends : List Sent) (said : List (Place × Message Entry)) → AreSent page bytes sends said
    → sent_lines from n sends ≡ packet_lines n (place_of from) said
unfolding sent_lines packet_lines
sends_lines page bytes from n [] [] are = refl
sends_lines page bytes from n [] (x ∷ said) are = absurd are
sends_lines page bytes from n (s ∷ sends) [] are = absurd are
sends_lines page bytes from n (s ∷ sends) (x ∷ said) are =
    let shown : sent_line from n s ≡ line.Sent n from s.to (message_shown x.1) ∷ [] =
    ap (λ o. elim o [
      | None ↦ []
      | Some m ↦ line.Sent n from s.to (message_shown m) ∷ []
    ]) are.0.hears in
    let ends : line.Sent n from s.to (message_shown x.1)
    ≡ line.Sent n (id_of (place_of from)) (id_of x.0) (message_shown x.1) =
    ap (λ a. line.Sent n a s.to (message_shown x.1)) (sym (id_there from))
    ∙ ap (λ b. line.Sent n (id_of (place_of from)) b (message_shown x.1))
    (sym (id_there s.to) ∙ ap id_of are.0.to) in
    ap (λ xs. xs ++ sent_lines from (n + length (packet_of from s)) sends) (shown
    ∙ ap (λ l. l ∷ []) ends)
    ∙ ap (λ k. line.Sent n (id_of (place_of from)) (id_of x.0) (message_shown x.1)
    ∷ sent_lines from (n + k) sends) (ap length (one_packet from s x.1 are.0.hears))
    ∙ ap (λ ls. line.Sent n (id_of (place_of from)) (id_of x.0) (message_shown x.1) ∷ ls)
    (sends_lines page bytes from (n + 1) sends said are.1)
