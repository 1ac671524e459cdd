-- The words of a door.
use Rattle.std.proofs.Common.{◌≡◌, ◌<◌, ◌≤◌, ℕ, List, [], ◌∷◌, length, get_or}
use Rattle.std.proofs.Common.{refl, sym, ap, ◌∙◌, arith, subst, Global}
use Rattle.std.specs.Prelude.{String, codes, string_bytes}
use Rattle.std.proofs.lemmas.Fmt.{decimal_injective}
use Rattle.harp_cli.specs.declared.door_words.Doorway.{Doorway}
use Rattle.harp_cli.specs.declared.words.Command.{Command}
use Rattle.harp_cli.specs.declared.words.Command.TheVariants as command
use Rattle.harp_cli.specs.Words.{DoorWords, IsDoor, IsDoorPlay, Named, PlayWords, texts}
use Rattle.harp_cli.proofs.WordLaws.{first, front}

pub six_words : (ws : List (String Global)) (a b c d e f : String Global) → 6 ≤ length ws
    → length ws < 7 → a ≡ get_or ws 0 a → b ≡ get_or ws 1 b → c ≡ get_or ws 2 c
    → d ≡ get_or ws 3 d → e ≡ get_or ws 4 e → f ≡ get_or ws 5 f
    → texts ws
    ≡ string_bytes a ∷ string_bytes b ∷ string_bytes c ∷ string_bytes d ∷ string_bytes e
    ∷ string_bytes f ∷ []
six_words [] a b c d e f some few p q r s t u = absurd (omega arith)
six_words (v ∷ []) a b c d e f some few p q r s t u = absurd (omega arith)
six_words (v ∷ w ∷ []) a b c d e f some few p q r s t u = absurd (omega arith)
six_words (v ∷ w ∷ x ∷ []) a b c d e f some few p q r s t u = absurd (omega arith)
six_words (v ∷ w ∷ x ∷ y ∷ []) a b c d e f some few p q r s t u = absurd (omega arith)
six_words (v ∷ w ∷ x ∷ y ∷ z ∷ []) a b c d e f some few p q r s t u = absurd (omega arith)
six_words (v ∷ w ∷ x ∷ y ∷ z ∷ o ∷ []) a b c d e f some few p q r s t u =
    rw (p, q, r, s, t, u) refl
six_words (v ∷ w ∷ x ∷ y ∷ z ∷ o ∷ n ∷ ws) a b c d e f some few p q r s t u =
    absurd (omega arith)

-- six words by the texts that they were given on as
pub six_texts : (ws : List (String Global)) (a b c d e f : String Global)
    (i j k l m n : List ℕ) → 6 ≤ length ws
    → length ws < 7 → a ≡ get_or ws 0 a → b ≡ get_or ws 1 b → c ≡ get_or ws 2 c
    → d ≡ get_or ws 3 d → e ≡ get_or ws 4 e → f ≡ get_or ws 5 f
    → i ≡ string_bytes a → j ≡ string_bytes b → k ≡ string_bytes c → l ≡ string_bytes d
    → m ≡ string_bytes e → n ≡ string_bytes f
    → texts ws ≡ i ∷ j ∷ k ∷ l ∷ m ∷ n ∷ []
six_texts ws a b c d e f i j k l m n some few p q r s t u v w x y z o =
    six_words ws a b c d e f some few p q r s t u ∙ rw (v, w, x, y, z, o) refl

-- words behind `door` that are neither those of a door in memory nor those of one to servers
pub no_door : (words : List (List ℕ)) → ((uid gid : ℕ) → PlayWords uid gid words → ⊥)
    → ((door : Doorway) → DoorWords door words → ⊥) → (c : Command) → Named (codes "door") words c → ⊥
unfolding first
no_door words none neither command.Play p =
    let e : 112 ≡ 100 = ap first p.0 in absurd (omega (arith, e))
no_door words none neither command.Check p =
    let e : 99 ≡ 100 = ap first p.0 in absurd (omega (arith, e))
no_door words none neither command.Observe p =
    let e : 111 ≡ 100 = ap first p.0 in absurd (omega (arith, e))
no_door words none neither (command.Gen s n) p =
    let e : 103 ≡ 100 = ap first p.0 in absurd (omega (arith, e))
no_door words none neither (command.Sweep s k n) p =
    let e : 115 ≡ 100 = ap first p.0 in absurd (omega (arith, e))
no_door words none neither (command.Node place runs) p =
    let e : 110 ≡ 100 = ap first p.0 in absurd (omega (arith, e))
no_door words none neither (command.Group runs) p =
    let e : 103 ≡ 100 = ap first p.0 in absurd (omega (arith, e))
no_door words none neither command.Audit p =
    let e : 97 ≡ 100 = ap first p.0 in absurd (omega (arith, e))
no_door words none neither (command.DoorPlay uid gid) p = none uid gid p.1
no_door words none neither (command.Door door) p = neither door p.1

-- those of a door in memory are three
pub play_length : (words : List (List ℕ)) (uid gid : ℕ) → PlayWords uid gid words
    → length words ≡ 3
play_length words uid gid p = ap length p.0

-- ---- words ask for one thing

pub one_door_play : (ws : List (String Global)) (u g v h : ℕ) → IsDoorPlay u g ws
    → IsDoorPlay v h ws → (u ≡ v) × (g ≡ h)
one_door_play ws u g v h p q =
    let e = sym p.0 ∙ q.0 in (
      decimal_injective u v (omega (arith, p.1)) (omega (arith, q.1))
          (ap (λ (ts : List (List ℕ)). get_or ts 2 []) e),
      decimal_injective g h (omega (arith, p.2)) (omega (arith, q.2))
          (ap (λ (ts : List (List ℕ)). get_or ts 3 []) e),
    )

same_door : (door again : Doorway) (words : List (List ℕ)) → DoorWords door words
    → DoorWords again words → door ≡ again
same_door door again words p q =
    let e = sym p.are ∙ q.are in
    let uids : door.caller.cred.uid ≡ again.caller.cred.uid =
    decimal_injective door.caller.cred.uid again.caller.cred.uid (omega (arith, p.within.uid))
    (omega (arith, q.within.uid)) (ap (λ (ts : List (List ℕ)). get_or ts 0 []) e) in
    let gids : door.caller.cred.gid ≡ again.caller.cred.gid =
    decimal_injective door.caller.cred.gid again.caller.cred.gid (omega (arith, p.within.gid))
    (omega (arith, q.within.gid)) (ap (λ (ts : List (List ℕ)). get_or ts 1 []) e) in
    let clients : door.caller.client ≡ again.caller.client =
    decimal_injective door.caller.client again.caller.client (omega (arith, p.within.client))
    (omega (arith, q.within.client)) (ap (λ (ts : List (List ℕ)). get_or ts 2 []) e) in
    let ports : door.port ≡ again.port = decimal_injective door.port again.port
    (omega (arith, p.within.high)) (omega (arith, q.within.high))
    (ap (λ (ts : List (List ℕ)). get_or ts 3 []) e) in
    let turns : door.caller.turns ≡ again.caller.turns =
    decimal_injective door.caller.turns again.caller.turns (omega (arith, p.within.most))
    (omega (arith, q.within.most)) (ap (λ (ts : List (List ℕ)). get_or ts 5 []) e) in
    rw (uids, gids, clients, ports, turns) refl

pub one_door : (ws : List (String Global)) (door again : Doorway) → IsDoor door ws
    → IsDoor again ws → door ≡ again
one_door ws door again p q =
    let rests = front (texts ws) (codes "door") p.rest (codes "door") q.rest p.are q.are in
    same_door door again p.rest p.door_words (subst (DoorWords again) rests.1 q.door_words)
