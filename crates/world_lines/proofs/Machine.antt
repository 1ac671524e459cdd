-- Packets and those of the group's machine.
use Rattle.std.proofs.Common.{◌≡◌, ℕ, zero, suc, ◌+◌, ◌-◌, ◌<◌, ◌&&◌, ◌||◌, ◌==◌, Bool, true, false}
use Rattle.std.proofs.Common.{not}
use Rattle.std.proofs.Common.{List, [], ◌∷◌, ◌++◌, length, map, Option, None, Some, refl, sym, ap}
use Rattle.std.proofs.Common.{◌∙◌}
use Rattle.std.proofs.Common.{arith, inl, inr, slice_get, if◌then◌else◌}
use Rattle.std.specs.Prelude.{eqb, get_or, nat_lt, reverse}
use Rattle.std.specs.List.{list_any}
use Rattle.std.specs.Option.{option_and_then, option_map, option_or}
use Rattle.std.proofs.lemmas.Bool.{cases_eq, cases_lt, eq-eqb, le-ltb, lt-ltb, ne_eqb}
use Rattle.std.proofs.lemmas.List.{get_or-reverse, length-map, length-reverse, map-append}
use Rattle.std.proofs.lemmas.List.{reverse-append, reverse-reverse}
use Rattle.std.proofs.lemmas.Option.{slice_get-get_or, slice_get-map, slice_get_past}
use Rattle.harp_types.specs.declared.server.ServerId.{ServerId}
use Rattle.file_tree.specs.Book.{Entry}
use Rattle.group_rules.specs.Names.{place_of}
use Rattle.group_rules.specs.Places.{same}
use Rattle.group_rules.specs.State.{Message as Heard, Packet as Sent}
use Rattle.group_rules.specs.Step.{numbered}
use Rattle.group_trace.specs.Pump.{is_among as is_among_sent, is_due, lowest_due}
use Rattle.node_outputs.specs.Messages.{heard}
use Rattle.wire.specs.declared.message.Message.{Message}
use Rattle.world_lines.specs.Posted.{Posted, delivered_at, posted, was_delivered}
use Rattle.world_lines.specs.Due.{first_due, first_from, is_among}
use Rattle.world_lines.specs.Machine.{StandFor, opened_as, sent, sent_as}
use Rattle.world_lines.proofs.Firsts.{first_push, one_then}

abbrev packet_as : Posted → Option (Sent Entry)
packet_as p = sent_as p.packet

-- ---- lists by their places

get_front : {A : Type 0} (xs : List A) (x : A) (n : ℕ) → n < length xs
    → slice_get (xs ++ x ∷ []) n ≡ slice_get xs n
get_front [] x n h = absurd (omega (arith, h))
get_front (y ∷ xs) x zero h = refl
get_front (y ∷ xs) x (suc n) h = get_front xs x n (omega (arith, h))

get_last : {A : Type 0} (xs : List A) (x : A) → slice_get (xs ++ x ∷ []) (length xs) ≡ Some x
get_last [] x = refl
get_last (y ∷ xs) x = get_last xs x

flag_push : (xs : List Posted) (x : Posted) (n : ℕ) → x.delivered ≡ false
    → was_delivered (slice_get (xs ++ x ∷ []) n) ≡ was_delivered (slice_get xs n)
flag_push [] x zero waits = waits
flag_push [] x (suc n) waits = refl
flag_push (y ∷ xs) x zero waits = refl
flag_push (y ∷ xs) x (suc n) waits = flag_push xs x n waits

eqb_suc : (n k : ℕ) → eqb (suc n) (suc k) ≡ eqb n k
eqb_suc n k = elim (cases_eq n k) [
  | inl same ↦ eq-eqb (suc n) (suc k) (omega (arith, same)) ∙ sym (eq-eqb n k same)
  | inr other ↦ ne_eqb (suc n) (suc k) (λ e. other (omega (arith, e))) ∙ sym (ne_eqb n k other)
]

flag_set : (xs : List Posted) (n k : ℕ) → n < length xs
    → was_delivered (slice_get (delivered_at xs n) k) ≡ (eqb n k || was_delivered (slice_get xs k))
unfolding delivered_at
flag_set [] n k h = absurd (omega (arith, h))
flag_set (x ∷ xs) zero zero h = ap (λ b. b || x.delivered) (sym (eq-eqb 0 0 refl))
flag_set (x ∷ xs) zero (suc k) h = ap (λ b. b || was_delivered (slice_get xs k))
    (sym (ne_eqb 0 (suc k) (λ e. omega (arith, e))))
flag_set (x ∷ xs) (suc n) zero h = ap (λ b. b || x.delivered)
    (sym (ne_eqb (suc n) 0 (λ e. omega (arith, e))))
flag_set (x ∷ xs) (suc n) (suc k) h = flag_set xs n k (omega (arith, h))
    ∙ ap (λ b. b || was_delivered (slice_get xs k)) (sym (eqb_suc n k))

packets_stay : (xs : List Posted) (n : ℕ) → map packet_as (delivered_at xs n) ≡ map packet_as xs
unfolding delivered_at
packets_stay [] n = refl
packets_stay (x ∷ xs) zero = refl
packets_stay (x ∷ xs) (suc n) = ap (λ ys. packet_as x ∷ ys) (packets_stay xs n)

as_many : (xs : List Posted) (ps : List (Sent Entry)) → map packet_as xs ≡ map Some ps
    → length xs ≡ length ps
as_many xs ps e = sym (length-map xs packet_as) ∙ ap length e ∙ length-map ps Some

-- ---- a packet by its number

either : (b : Bool) → ◌≡◌ {A = Option (Sent Entry)} (if b then None else None) None
either true = refl
either false = refl

reversed : (ps : List (Sent Entry)) (n : ℕ) → numbered ps n ≡ slice_get (reverse ps) n
reversed [] n = either (nat_lt n 0)
reversed (p ∷ ps) n =
    let all = p ∷ ps in
    elim (cases_lt n (length all)) [
      | inl low ↦
          ap (λ b. if b then slice_get all (length all - suc n) else None) (lt-ltb n (length all) low)
          ∙ slice_get-get_or all (length all - suc n) p (omega (arith, low))
          ∙ ap (λ k. Some (get_or all k p)) (omega arith)
          ∙ sym (ap Some (get_or-reverse all n p low))
          ∙ sym (slice_get-get_or (reverse all) n p (omega (arith, low, length-reverse all)))
      | inr high ↦
          ap (λ b. if b then slice_get all (length all - suc n) else None)
          (le-ltb n (length all) high)
          ∙ sym (slice_get_past (reverse all) n (omega (arith, high, length-reverse all)))
    ]

joined : (o : Option Posted) (q : Option (Sent Entry)) → option_map packet_as o ≡ option_map Some q
    → option_and_then sent_as (option_map (λ (p : Posted). p.packet) o) ≡ q
joined None None e = refl
joined None (Some s) e = absurd cc
joined (Some p) None e = absurd cc
joined (Some p) (Some s) e = cc

pub opened_is : (xs : List Posted) (ps : List (Sent Entry)) (numbers : List ℕ) (n : ℕ)
    → StandFor xs ps numbers
    → opened_as (option_map (λ (p : Posted). p.packet) (slice_get xs n)) ≡ numbered ps n
opened_is xs ps numbers n h =
    joined (slice_get xs n) (slice_get (reverse ps) n)
    (sym (slice_get-map packet_as xs n) ∙ ap (λ ys. slice_get ys n) h.packets_are
    ∙ slice_get-map Some (reverse ps) n)
    ∙ sym (reversed ps n)

-- ---- where a packet goes

ends_of : (from to : ServerId) (o : Option (Heard Entry)) (s : Sent Entry)
    → option_map (sent from to) o ≡ Some s → (s.from ≡ place_of from) × (s.to ≡ place_of to)
ends_of from to None s e = absurd cc
ends_of from to (Some body) s e =
    let is : sent from to body ≡ s = cc in
    (sym (ap (λ (x : Sent Entry). x.from) is), sym (ap (λ (x : Sent Entry). x.to) is))

module _ (xs : List Posted) (ps : List (Sent Entry)) (numbers : List ℕ) (n : ℕ)
    (h : StandFor xs ps numbers) where
  same_places : {A : Type 0} (f : Posted → A) (g : Sent Entry → A)
      → ((p : Posted) (s : Sent Entry) → packet_as p ≡ Some s → f p ≡ g s)
      → option_map f (slice_get xs n) ≡ option_map g (numbered ps n)
  same_places f g is =
      by (slice_get xs n) (slice_get (reverse ps) n)
      (sym (slice_get-map packet_as xs n) ∙ ap (λ ys. slice_get ys n) h.packets_are
      ∙ slice_get-map Some (reverse ps) n)
      ∙ ap (option_map g) (sym (reversed ps n))
    where
      by : (o : Option Posted) (q : Option (Sent Entry))
          → option_map packet_as o ≡ option_map Some q → option_map f o ≡ option_map g q
      by None None e = refl
      by None (Some s) e = absurd cc
      by (Some p) None e = absurd cc
      by (Some p) (Some s) e = ap Some (is p s cc)

  pub sender_is : option_map (λ (p : Posted). place_of p.packet.from) (slice_get xs n)
      ≡ option_map (λ (s : Sent Entry). s.from) (numbered ps n)
  sender_is = same_places (λ p. place_of p.packet.from) (λ s. s.from)
      (λ p s e. sym (ends_of p.packet.from p.packet.to (heard p.packet.message) s e).0)

  pub target_is : option_map (λ (p : Posted). place_of p.packet.to) (slice_get xs n)
      ≡ option_map (λ (s : Sent Entry). s.to) (numbered ps n)
  target_is = same_places (λ p. place_of p.packet.to) (λ s. s.to)
      (λ p s e. sym (ends_of p.packet.from p.packet.to (heard p.packet.message) s e).1)

pub map_twice : {A B C : Type 0} (f : A → B) (g : B → C) (o : Option A)
    → option_map g (option_map f o) ≡ option_map (λ x. g (f x)) o
map_twice f g None = refl
map_twice f g (Some x) = refl

-- the machine has as many packets
pub as_many_stand : (xs : List Posted) (ps : List (Sent Entry)) (numbers : List ℕ)
    → StandFor xs ps numbers → length xs ≡ length ps
as_many_stand xs ps numbers h = as_many xs (reverse ps) h.packets_are ∙ length-reverse ps

-- ---- what stands for the machine's packets goes on to

pub none_stand : StandFor [] [] []
none_stand = record { packets_are = refl; delivered = λ n. refl }

pub sent_stand : (xs : List Posted) (ps : List (Sent Entry)) (numbers : List ℕ)
    (from to : ServerId) (m : Message) (body : Heard Entry) → StandFor xs ps numbers
    → heard m ≡ Some body
    → StandFor (xs ++ posted from to m ∷ []) (sent from to body ∷ ps) numbers
sent_stand xs ps numbers from to m body h is =
    let x = posted from to m in
    let s = sent from to body in
    record {
      packets_are = map-append packet_as xs (x ∷ [])
          ∙ ap (λ y. map packet_as xs ++ y ∷ []) (ap (option_map (sent from to)) is)
          ∙ ap (λ ys. ys ++ Some s ∷ []) h.packets_are
          ∙ sym (map-append Some (reverse ps) (s ∷ []))
          ∙ sym (ap (map Some) (reverse-append (s ∷ []) ps));
      delivered = λ n. h.delivered n ∙ sym (flag_push xs x n refl);
    }

pub delivered_stand : (xs : List Posted) (ps : List (Sent Entry)) (numbers : List ℕ) (n : ℕ)
    → StandFor xs ps numbers → n < length ps → StandFor (delivered_at xs n) ps (n ∷ numbers)
delivered_stand xs ps numbers n h low = record {
  packets_are = packets_stay xs n ∙ h.packets_are;
  delivered = λ k. ap (λ b. (n == k) || b) (h.delivered k)
      ∙ sym (flag_set xs n k (omega (arith, low, as_many_stand xs ps numbers h)));
}

-- ---- the packet that a pump delivers next

comm : (a b : Bool) → (a && b) ≡ (b && a)
comm true true = refl
comm true false = refl
comm false true = refl
comm false false = refl

among_alike : (among : Option (ServerId × ServerId)) (p : Posted) (s : Sent Entry)
    → packet_as p ≡ Some s → is_among_sent among s ≡ is_among among p
among_alike None p s e = refl
among_alike (Some pair) p s e =
    let at = ends_of p.packet.from p.packet.to (heard p.packet.message) s e in
    rw (at.0, at.1) (ap (λ b. (same (place_of pair.0) (place_of p.packet.from)
    && same (place_of pair.1) (place_of p.packet.to)) || b)
    (comm (same (place_of pair.0) (place_of p.packet.to))
    (same (place_of pair.1) (place_of p.packet.from))))

-- what is due where this is due of the older packets
chosen : (o : Option ℕ) (b c : Bool) (m n : ℕ) → b ≡ c → m ≡ n
    → elim o [ Some k ↦ Some k | None ↦ if b then Some m else None ]
    ≡ option_or o (one_then c n None)
chosen (Some k) b c m n e f = refl
chosen None b c m n e f = rw (e, f) refl

-- what is due where one packet is the newest
push_due : (among : Option (ServerId × ServerId)) (xs : List Posted) (x : Posted) (o : Option ℕ)
    (b : Bool) (m : ℕ) → o ≡ first_due among xs → b ≡ (is_among among x && not x.delivered)
    → m ≡ length xs
    → elim o [ Some k ↦ Some k | None ↦ if b then Some m else None ]
    ≡ first_due among (xs ++ x ∷ [])
push_due among xs x o b m rest due many =
    chosen o b (is_among among x && not x.delivered) m (0 + length xs) due (omega (arith, many))
    ∙ ap (λ r. option_or r (one_then (is_among among x && not x.delivered) (0 + length xs) None))
    rest
    ∙ sym (first_push (is_among among) 0 xs x)

lowest_is : (among : Option (ServerId × ServerId)) (numbers : List ℕ) (xs : List Posted)
    (ps : List (Sent Entry)) → map packet_as xs ≡ map Some ps
    → ((n : ℕ) → n < length xs
    → list_any (λ m. m == n) numbers ≡ was_delivered (slice_get (reverse xs) n))
    → lowest_due among numbers ps ≡ first_due among (reverse xs)
unfolding lowest_due first_from
lowest_is among numbers [] [] e flags = refl
lowest_is among numbers [] (p ∷ ps) e flags = absurd cc
lowest_is among numbers (x ∷ xs) [] e flags = absurd cc
lowest_is among numbers (x ∷ xs) (p ∷ ps) e flags =
    let head : packet_as x ≡ Some p = cc in
    let tail : map packet_as xs ≡ map Some ps = cc in
    let many : length (reverse xs) ≡ length ps = length-reverse xs ∙ as_many xs ps tail in
    let split : reverse (x ∷ xs) ≡ reverse xs ++ x ∷ [] = reverse-append (x ∷ []) xs in
    let older = λ (n : ℕ) (low : n < length xs). flags n (omega (arith, low))
    ∙ ap (λ ys. was_delivered (slice_get ys n)) split
    ∙ ap was_delivered (get_front (reverse xs) x n (omega (arith, low, length-reverse xs))) in
    let newest : list_any (λ m. m == length ps) numbers ≡ x.delivered =
    flags (length ps) (omega (arith, many, length-reverse xs))
    ∙ ap (λ ys. was_delivered (slice_get ys (length ps))) split
    ∙ ap (λ n. was_delivered (slice_get (reverse xs ++ x ∷ []) n)) (sym many)
    ∙ ap was_delivered (get_last (reverse xs) x) in
    let due : is_due among numbers (length ps) p ≡ (is_among among x && not x.delivered) =
    ap (λ b. b && not (list_any (λ m. m == length ps) numbers)) (among_alike among x p head)
    ∙ ap (λ b. is_among among x && not b) newest in
    push_due among (reverse xs) x (lowest_due among numbers ps)
    (is_due among numbers (length ps) p) (length ps)
    (lowest_is among numbers xs ps tail older) due (sym many)
    ∙ ap (first_due among) (sym split)

map_reverse : {A B : Type 0} (f : A → B) (xs : List A) → map f (reverse xs) ≡ reverse (map f xs)
map_reverse f [] = refl
map_reverse f (x ∷ xs) = ap (map f) (reverse-append (x ∷ []) xs)
    ∙ map-append f (reverse xs) (x ∷ [])
    ∙ ap (λ ys. ys ++ f x ∷ []) (map_reverse f xs)
    ∙ sym (reverse-append (f x ∷ []) (map f xs))

pub lowest_due_is : (among : Option (ServerId × ServerId)) (xs : List Posted)
    (ps : List (Sent Entry)) (numbers : List ℕ) → StandFor xs ps numbers
    → first_due among xs ≡ lowest_due among numbers ps
lowest_due_is among xs ps numbers h =
    let newest_first : map packet_as (reverse xs) ≡ map Some ps =
    map_reverse packet_as xs ∙ ap reverse h.packets_are
    ∙ sym (map_reverse Some (reverse ps)) ∙ ap (map Some) (reverse-reverse ps) in
    sym (lowest_is among numbers (reverse xs) ps newest_first
    (λ n low. h.delivered n
    ∙ sym (ap (λ ys. was_delivered (slice_get ys n)) (reverse-reverse xs)))
    ∙ ap (first_due among) (reverse-reverse xs))
