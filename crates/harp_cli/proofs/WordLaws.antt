-- The words of a command.
use Rattle.std.proofs.Common.{◌≡◌, ◌<◌, ◌≤◌, ◌^◌, ◌-◌, ℕ, List, [], ◌∷◌, length, get_or, take, drop}
use Rattle.std.proofs.Common.{refl, sym, ap, ◌∙◌, subst, arith, Global, Option, Some, None, decimal}
use Rattle.std.specs.Prelude.{MatchOption, IsSome, IfSome, ◌↔◌, String, codes, string_bytes}
use Rattle.std.proofs.lemmas.Fmt.{decimal_injective}
use Rattle.std.proofs.lemmas.Grind.{common_steps}
use Rattle.promise.specs.Promise.{IsDelta}
use Rattle.harp_types.specs.Server.{number_of}
use Rattle.harp_types.specs.declared.server.ServerId.{ServerId}
use Rattle.harp_types.specs.declared.server.ServerId.TheVariants.{Zero, One, Two}
use Rattle.harp_cli.specs.declared.loop_words.Loop.{Loop}
use Rattle.harp_cli.specs.declared.words.Command.{Command}
use Rattle.harp_cli.specs.declared.words.Command.TheVariants as command
use Rattle.harp_cli.specs.Words.{DoorWords, IsGen, IsGroup, IsNode, IsSweep}
use Rattle.harp_cli.specs.Words.{AsksFor, AuditWords, IsForm, LoopWords, Named, NodeWords, delta_of}
use Rattle.harp_cli.specs.Words.{delta_words, texts}

-- ---- lists of words

-- the bytes of the first word, and those of the others
pub first_word : (ws : List (String Global)) (w : String Global) → 1 ≤ length ws
    → w ≡ get_or ws 0 w
    → texts ws ≡ string_bytes w ∷ texts (take (length ws - 1) (drop 1 ws))
first_word [] w some is = absurd (omega arith)
first_word (x ∷ xs) w some is =
    let rest : take (length (x ∷ xs) - 1) (drop 1 (x ∷ xs)) ≡ xs = grind (arith, common_steps) in
    rw (is, rest) refl

pub three_words : (ws : List (String Global)) (a b d : String Global) → 3 ≤ length ws
    → length ws < 4 → a ≡ get_or ws 0 a → b ≡ get_or ws 1 b → d ≡ get_or ws 2 d
    → texts ws ≡ string_bytes a ∷ string_bytes b ∷ string_bytes d ∷ []
three_words [] a b d some few p q r = absurd (omega arith)
three_words (x ∷ []) a b d some few p q r = absurd (omega arith)
three_words (x ∷ y ∷ []) a b d some few p q r = absurd (omega arith)
three_words (x ∷ y ∷ z ∷ []) a b d some few p q r = rw (p, q, r) refl
three_words (x ∷ y ∷ z ∷ t ∷ ws) a b d some few p q r = absurd (omega arith)

pub four_words : (ws : List (String Global)) (a b d e : String Global) → 4 ≤ length ws
    → length ws < 5 → a ≡ get_or ws 0 a → b ≡ get_or ws 1 b → d ≡ get_or ws 2 d
    → e ≡ get_or ws 3 e
    → texts ws ≡ string_bytes a ∷ string_bytes b ∷ string_bytes d ∷ string_bytes e ∷ []
four_words [] a b d e some few p q r s = absurd (omega arith)
four_words (x ∷ []) a b d e some few p q r s = absurd (omega arith)
four_words (x ∷ y ∷ []) a b d e some few p q r s = absurd (omega arith)
four_words (x ∷ y ∷ z ∷ []) a b d e some few p q r s = absurd (omega arith)
four_words (x ∷ y ∷ z ∷ t ∷ []) a b d e some few p q r s = rw (p, q, r, s) refl
four_words (x ∷ y ∷ z ∷ t ∷ u ∷ ws) a b d e some few p q r s = absurd (omega arith)

-- ---- how servers are run

pub delta_found : (r : Option ℕ) (word : List ℕ) (n : ℕ) → word ≡ decimal n → n < 2 ^ 64
    → (IsSome r ↔ IsDelta n) → IfSome r (λ d. d ≡ n)
    → MatchOption r ((delta : ℕ) → IsDelta delta → word ≡ decimal delta → ⊥)
    (λ delta. IsDelta delta × (word ≡ decimal delta))
delta_found None word n is small found value = λ delta within told.
    let same : delta ≡ n = decimal_injective delta n (omega (arith, within.1)) small
    (sym told ∙ is) in
    let some = found.1 (subst IsDelta same within) in
    absurd cc
delta_found (Some d) word n is small found value =
    (subst IsDelta (sym value) (found.0 refl), is ∙ ap decimal (sym value))

-- what words tell, by another spelling of them
pub of_list : (words list : List (List ℕ)) → words ≡ list → (r : Option Loop)
    → MatchOption r ((runs : Loop) → LoopWords runs list → ⊥) (λ runs. LoopWords runs list)
    → MatchOption r ((runs : Loop) → LoopWords runs words → ⊥) (λ runs. LoopWords runs words)
of_list words list are None none = λ runs told. none runs (subst (LoopWords runs) are told)
of_list words list are (Some runs) told = subst (LoopWords runs) (sym are) told

told_length : (o : Option ℕ) (word : List ℕ) → delta_words o ≡ word ∷ [] → IsDelta (delta_of o)
    → ((delta : ℕ) → IsDelta delta → word ≡ decimal delta → ⊥) → ⊥
told_length None word is within none = absurd cc
told_length (Some d) word is within none =
    none d within (sym (ap (λ (ts : List (List ℕ)). get_or ts 0 []) is))

-- a word that is no length of promises
pub no_delta : (words : List (List ℕ)) (port folder turns word : List ℕ)
    → words ≡ port ∷ folder ∷ turns ∷ word ∷ []
    → ((delta : ℕ) → IsDelta delta → word ≡ decimal delta → ⊥) → (runs : Loop)
    → LoopWords runs words → ⊥
no_delta words port folder turns word are none runs told =
    told_length runs.delta word (ap (drop 3) (sym told.are ∙ are)) told.within.delta none

-- ---- a command by its first word

pub front : (ws : List (List ℕ)) (name : List ℕ) (rest : List (List ℕ)) (other : List ℕ)
    (more : List (List ℕ)) → ws ≡ name ∷ rest → ws ≡ other ∷ more → (other ≡ name) × (more ≡ rest)
front ws name rest other more p q =
    let same = sym q ∙ p in
    (ap (λ (ts : List (List ℕ)). get_or ts 0 []) same, ap (drop 1) same)

named : (ws : List (String Global)) (name : List ℕ) (rest : List (List ℕ)) → texts ws ≡ name ∷ rest
    → (c : Command) → AsksFor ws c → Named name rest c
named ws name rest are command.Play p =
    let same = front (texts ws) name rest (codes "play") [] are p in
    (same.0, sym same.1)
named ws name rest are command.Check p =
    let same = front (texts ws) name rest (codes "check") [] are p in
    (same.0, sym same.1)
named ws name rest are command.Observe p =
    let same = front (texts ws) name rest (codes "observe") [] are p in
    (same.0, sym same.1)
named ws name rest are (command.Gen s n) p =
    let same =
    front (texts ws) name rest (codes "gen") (decimal s ∷ decimal n ∷ []) are p.0 in
    (same.0, (sym same.1, p.1, p.2))
named ws name rest are (command.Sweep s k n) p =
    let same =
    front (texts ws) name rest (codes "sweep") (decimal s ∷ decimal k ∷ decimal n ∷ []) are p.0 in
    (same.0, (sym same.1, p.1, p.2, p.3, p.4))
named ws name rest are (command.Node place runs) p =
    let same = front (texts ws) name rest (codes "node") p.rest are p.are in
    (same.0, subst (NodeWords place runs) same.1 p.node_words)
named ws name rest are (command.Group runs) p =
    let same = front (texts ws) name rest (codes "group") p.rest are p.are in
    (same.0, subst (LoopWords runs) same.1 p.loop_words)
named ws name rest are command.Audit p =
    let same = front (texts ws) name rest (codes "audit") p.rest are p.are in
    (same.0, subst AuditWords same.1 p.audit_words)
named ws name rest are (command.DoorPlay uid gid) p =
    let same = front (texts ws) name rest (codes "door")
    (codes "play" ∷ decimal uid ∷ decimal gid ∷ []) are p.0 in
    (same.0, (sym same.1, p.1, p.2))
named ws name rest are (command.Door door) p =
    let same = front (texts ws) name rest (codes "door") p.rest are p.are in
    (same.0, subst (DoorWords door) same.1 p.door_words)

asks : (ws : List (String Global)) (name : List ℕ) (rest : List (List ℕ)) → texts ws ≡ name ∷ rest
    → (c : Command) → Named name rest c → AsksFor ws c
asks ws name rest are command.Play p =
    are ∙ ap (λ t. t ∷ rest) (sym p.0) ∙ ap (λ ts. codes "play" ∷ ts) p.1
asks ws name rest are command.Check p =
    are ∙ ap (λ t. t ∷ rest) (sym p.0) ∙ ap (λ ts. codes "check" ∷ ts) p.1
asks ws name rest are command.Observe p =
    are ∙ ap (λ t. t ∷ rest) (sym p.0) ∙ ap (λ ts. codes "observe" ∷ ts) p.1
asks ws name rest are (command.Gen s n) p = (
  are ∙ ap (λ t. t ∷ rest) (sym p.0) ∙ ap (λ ts. codes "gen" ∷ ts) p.1.0,
  p.1.1,
  p.1.2,
)
asks ws name rest are (command.Sweep s k n) p = (
  are ∙ ap (λ t. t ∷ rest) (sym p.0) ∙ ap (λ ts. codes "sweep" ∷ ts) p.1.0,
  p.1.1,
  p.1.2,
  p.1.3,
  p.1.4,
)
asks ws name rest are (command.Node place runs) p =
    record { rest = rest; are = are ∙ ap (λ t. t ∷ rest) (sym p.0); node_words = p.1 }
asks ws name rest are (command.Group runs) p =
    record { rest = rest; are = are ∙ ap (λ t. t ∷ rest) (sym p.0); loop_words = p.1 }
asks ws name rest are command.Audit p =
    record { rest = rest; are = are ∙ ap (λ t. t ∷ rest) (sym p.0); audit_words = p.1 }
asks ws name rest are (command.DoorPlay uid gid) p = (
  are ∙ ap (λ t. t ∷ rest) (sym p.0) ∙ ap (λ ts. codes "door" ∷ ts) p.1.0,
  p.1.1,
  p.1.2,
)
asks ws name rest are (command.Door door) p =
    record { rest = rest; are = are ∙ ap (λ t. t ∷ rest) (sym p.0); door_words = p.1 }

pub by_name : (ws : List (String Global)) (name : List ℕ) (rest : List (List ℕ))
    → texts ws ≡ name ∷ rest → (r : Option Command)
    → MatchOption r ((c : Command) → Named name rest c → ⊥) (Named name rest)
    → MatchOption r (IsForm ws → ⊥) (AsksFor ws)
by_name ws name rest are None none = λ form. none form.0 (named ws name rest are form.0 form.1)
by_name ws name rest are (Some c) is = asks ws name rest are c is

-- most names differ in their second letters
second : List ℕ → ℕ
second name = get_or name 1 0

-- no other name has the first letter of `node` or `door`
unfoldable pub first : List ℕ → ℕ
first name = get_or name 0 0

only_play : (rest : List (List ℕ)) (c : Command) → Named (codes "play") rest c → rest ≡ []
unfolding second
only_play rest command.Play p = p.1
only_play rest command.Check p = let e : 104 ≡ 108 = ap second p.0 in absurd (omega (arith, e))
only_play rest command.Observe p = let e : 98 ≡ 108 = ap second p.0 in absurd (omega (arith, e))
only_play rest (command.Gen s n) p =
    let e : 101 ≡ 108 = ap second p.0 in absurd (omega (arith, e))
only_play rest (command.Sweep s k n) p =
    let e : 119 ≡ 108 = ap second p.0 in absurd (omega (arith, e))
only_play rest (command.Node place runs) p =
    let e : 111 ≡ 108 = ap second p.0 in absurd (omega (arith, e))
only_play rest (command.Group runs) p =
    let e : 114 ≡ 108 = ap second p.0 in absurd (omega (arith, e))
only_play rest command.Audit p = let e : 117 ≡ 108 = ap second p.0 in absurd (omega (arith, e))
only_play rest (command.DoorPlay uid gid) p =
    let e : 111 ≡ 108 = ap second p.0 in absurd (omega (arith, e))
only_play rest (command.Door door) p =
    let e : 111 ≡ 108 = ap second p.0 in absurd (omega (arith, e))

only_check : (rest : List (List ℕ)) (c : Command) → Named (codes "check") rest c → rest ≡ []
unfolding second
only_check rest command.Play p = let e : 108 ≡ 104 = ap second p.0 in absurd (omega (arith, e))
only_check rest command.Check p = p.1
only_check rest command.Observe p = let e : 98 ≡ 104 = ap second p.0 in absurd (omega (arith, e))
only_check rest (command.Gen s n) p =
    let e : 101 ≡ 104 = ap second p.0 in absurd (omega (arith, e))
only_check rest (command.Sweep s k n) p =
    let e : 119 ≡ 104 = ap second p.0 in absurd (omega (arith, e))
only_check rest (command.Node place runs) p =
    let e : 111 ≡ 104 = ap second p.0 in absurd (omega (arith, e))
only_check rest (command.Group runs) p =
    let e : 114 ≡ 104 = ap second p.0 in absurd (omega (arith, e))
only_check rest command.Audit p = let e : 117 ≡ 104 = ap second p.0 in absurd (omega (arith, e))
only_check rest (command.DoorPlay uid gid) p =
    let e : 111 ≡ 104 = ap second p.0 in absurd (omega (arith, e))
only_check rest (command.Door door) p =
    let e : 111 ≡ 104 = ap second p.0 in absurd (omega (arith, e))

only_observe : (rest : List (List ℕ)) (c : Command) → Named (codes "observe") rest c → rest ≡ []
unfolding second
only_observe rest command.Play p = let e : 108 ≡ 98 = ap second p.0 in absurd (omega (arith, e))
only_observe rest command.Check p = let e : 104 ≡ 98 = ap second p.0 in absurd (omega (arith, e))
only_observe rest command.Observe p = p.1
only_observe rest (command.Gen s n) p =
    let e : 101 ≡ 98 = ap second p.0 in absurd (omega (arith, e))
only_observe rest (command.Sweep s k n) p =
    let e : 119 ≡ 98 = ap second p.0 in absurd (omega (arith, e))
only_observe rest (command.Node place runs) p =
    let e : 111 ≡ 98 = ap second p.0 in absurd (omega (arith, e))
only_observe rest (command.Group runs) p =
    let e : 114 ≡ 98 = ap second p.0 in absurd (omega (arith, e))
only_observe rest command.Audit p = let e : 117 ≡ 98 = ap second p.0 in absurd (omega (arith, e))
only_observe rest (command.DoorPlay uid gid) p =
    let e : 111 ≡ 98 = ap second p.0 in absurd (omega (arith, e))
only_observe rest (command.Door door) p =
    let e : 111 ≡ 98 = ap second p.0 in absurd (omega (arith, e))

pub play_alone : (rest : List (List ℕ)) (r : Option Command)
    → MatchOption r (rest ≡ [] → ⊥) (λ c. (c ≡ command.Play) × (rest ≡ []))
    → MatchOption r ((c : Command) → Named (codes "play") rest c → ⊥) (Named (codes "play") rest)
play_alone rest None none = λ c p. none (only_play rest c p)
play_alone rest (Some c) is = subst (Named (codes "play") rest) (sym is.0) (refl, is.1)

pub check_alone : (rest : List (List ℕ)) (r : Option Command)
    → MatchOption r (rest ≡ [] → ⊥) (λ c. (c ≡ command.Check) × (rest ≡ []))
    → MatchOption r ((c : Command) → Named (codes "check") rest c → ⊥) (Named (codes "check") rest)
check_alone rest None none = λ c p. none (only_check rest c p)
check_alone rest (Some c) is = subst (Named (codes "check") rest) (sym is.0) (refl, is.1)

pub observe_alone : (rest : List (List ℕ)) (r : Option Command)
    → MatchOption r (rest ≡ [] → ⊥) (λ c. (c ≡ command.Observe) × (rest ≡ []))
    → MatchOption r ((c : Command) → Named (codes "observe") rest c → ⊥)
    (Named (codes "observe") rest)
observe_alone rest None none = λ c p. none (only_observe rest c p)
observe_alone rest (Some c) is = subst (Named (codes "observe") rest) (sym is.0) (refl, is.1)

-- words behind `node` of which the first isn't followed by how a server is run
pub no_loop : (words rest : List (List ℕ)) (word : List ℕ) → words ≡ word ∷ rest
    → ((runs : Loop) → LoopWords runs rest → ⊥) → (c : Command)
    → Named (codes "node") words c → ⊥
unfolding second first
no_loop words rest word are none command.Play p =
    let e : 108 ≡ 111 = ap second p.0 in absurd (omega (arith, e))
no_loop words rest word are none command.Check p =
    let e : 104 ≡ 111 = ap second p.0 in absurd (omega (arith, e))
no_loop words rest word are none command.Observe p =
    let e : 98 ≡ 111 = ap second p.0 in absurd (omega (arith, e))
no_loop words rest word are none (command.Gen s n) p =
    let e : 101 ≡ 111 = ap second p.0 in absurd (omega (arith, e))
no_loop words rest word are none (command.Sweep s k n) p =
    let e : 119 ≡ 111 = ap second p.0 in absurd (omega (arith, e))
no_loop words rest word are none (command.Node place runs) p =
    let same = front words word rest (decimal (number_of place)) p.1.rest are p.1.are in
    none runs (subst (LoopWords runs) same.1 p.1.loop_words)
no_loop words rest word are none (command.Group runs) p =
    let e : 114 ≡ 111 = ap second p.0 in absurd (omega (arith, e))
no_loop words rest word are none command.Audit p =
    let e : 117 ≡ 111 = ap second p.0 in absurd (omega (arith, e))
no_loop words rest word are none (command.DoorPlay uid gid) p =
    let e : 100 ≡ 110 = ap first p.0 in absurd (omega (arith, e))
no_loop words rest word are none (command.Door door) p =
    let e : 100 ≡ 110 = ap first p.0 in absurd (omega (arith, e))

-- words behind `audit` that aren't a folder's name
pub no_folder : (words : List (List ℕ)) → (AuditWords words → ⊥) → (c : Command)
    → Named (codes "audit") words c → ⊥
unfolding second
no_folder words none command.Play p =
    let e : 108 ≡ 117 = ap second p.0 in absurd (omega (arith, e))
no_folder words none command.Check p =
    let e : 104 ≡ 117 = ap second p.0 in absurd (omega (arith, e))
no_folder words none command.Observe p =
    let e : 98 ≡ 117 = ap second p.0 in absurd (omega (arith, e))
no_folder words none (command.Gen s n) p =
    let e : 101 ≡ 117 = ap second p.0 in absurd (omega (arith, e))
no_folder words none (command.Sweep s k n) p =
    let e : 119 ≡ 117 = ap second p.0 in absurd (omega (arith, e))
no_folder words none (command.Node place runs) p =
    let e : 111 ≡ 117 = ap second p.0 in absurd (omega (arith, e))
no_folder words none (command.Group runs) p =
    let e : 114 ≡ 117 = ap second p.0 in absurd (omega (arith, e))
no_folder words none command.Audit p = none p.1
no_folder words none (command.DoorPlay uid gid) p =
    let e : 111 ≡ 117 = ap second p.0 in absurd (omega (arith, e))
no_folder words none (command.Door door) p =
    let e : 111 ≡ 117 = ap second p.0 in absurd (omega (arith, e))

-- several words are no folder's name, and neither is none, nor an empty one
pub no_one_word : (words : List (List ℕ)) → (length words ≡ 1 → ⊥) → AuditWords words → ⊥
no_one_word words other is = other (ap length is.are)

pub no_name : (words : List (List ℕ)) (word : List ℕ) → words ≡ word ∷ [] → word ≡ []
    → AuditWords words → ⊥
no_name words word are empty is =
    is.named (ap (λ (ts : List (List ℕ)). get_or ts 0 []) (sym is.are ∙ are) ∙ empty)

pub one_word : (ws : List (String Global)) (a : String Global) → 1 ≤ length ws → length ws < 2
    → a ≡ get_or ws 0 a → texts ws ≡ string_bytes a ∷ []
one_word [] a some few p = absurd (omega (arith, some))
one_word (x ∷ []) a some few p = rw p refl
one_word (x ∷ y ∷ ws) a some few p = absurd (omega (arith, few))

-- ---- words ask for one thing

same_place : (p q : ServerId) → number_of p ≡ number_of q → p ≡ q
same_place Zero Zero e = refl
same_place Zero One e = absurd (omega (arith, e))
same_place Zero Two e = absurd (omega (arith, e))
same_place One Zero e = absurd (omega (arith, e))
same_place One One e = refl
same_place One Two e = absurd (omega (arith, e))
same_place Two Zero e = absurd (omega (arith, e))
same_place Two One e = absurd (omega (arith, e))
same_place Two Two e = refl

small : (p : ServerId) → number_of p < 3
small Zero = omega arith
small One = omega arith
small Two = omega arith

same_delta : (o p : Option ℕ) → delta_words o ≡ delta_words p → IsDelta (delta_of o)
    → IsDelta (delta_of p) → o ≡ p
same_delta None None e m n = refl
same_delta None (Some b) e m n = absurd cc
same_delta (Some a) None e m n = absurd cc
same_delta (Some a) (Some b) e m n = ap Some (decimal_injective a b (omega (arith, m.1))
    (omega (arith, n.1)) (ap (λ (ts : List (List ℕ)). get_or ts 0 []) e))

same_loop : (runs again : Loop) (words : List (List ℕ)) → LoopWords runs words
    → LoopWords again words → runs ≡ again
same_loop runs again words p q =
    let e = sym p.are ∙ q.are in
    let ports : runs.port ≡ again.port = decimal_injective runs.port again.port
    (omega (arith, p.within.high)) (omega (arith, q.within.high))
    (ap (λ (ts : List (List ℕ)). get_or ts 0 []) e) in
    let turns : runs.turns ≡ again.turns = decimal_injective runs.turns again.turns
    (omega (arith, p.within.most)) (omega (arith, q.within.most))
    (ap (λ (ts : List (List ℕ)). get_or ts 2 []) e) in
    let deltas : runs.delta ≡ again.delta = same_delta runs.delta again.delta (ap (drop 3) e)
    p.within.delta q.within.delta in
    rw (ports, turns, deltas) refl

pub one_node : (ws : List (String Global)) (place other : ServerId) (runs again : Loop)
    → IsNode place runs ws → IsNode other again ws → (place ≡ other) × (runs ≡ again)
one_node ws place other runs again p q =
    let rests = front (texts ws) (codes "node") p.rest (codes "node") q.rest p.are q.are in
    let node : NodeWords other again p.rest =
    subst (NodeWords other again) rests.1 q.node_words in
    let parts = front p.rest (decimal (number_of place)) p.node_words.rest
    (decimal (number_of other)) node.rest p.node_words.are node.are in
    let numbers : number_of other ≡ number_of place =
    decimal_injective (number_of other) (number_of place) (omega (arith, small other))
    (omega (arith, small place)) parts.0 in (
      same_place place other (sym numbers),
      same_loop runs again p.node_words.rest p.node_words.loop_words
          (subst (LoopWords again) parts.1 node.loop_words),
    )

pub one_group : (ws : List (String Global)) (runs again : Loop) → IsGroup runs ws
    → IsGroup again ws → runs ≡ again
one_group ws runs again p q =
    let rests = front (texts ws) (codes "group") p.rest (codes "group") q.rest p.are q.are in
    same_loop runs again p.rest p.loop_words (subst (LoopWords again) rests.1 q.loop_words)

pub one_gen : (ws : List (String Global)) (s n t m : ℕ) → IsGen s n ws → IsGen t m ws
    → (s ≡ t) × (n ≡ m)
one_gen ws s n t m p q =
    let e = sym p.0 ∙ q.0 in (
      decimal_injective s t (omega (arith, p.1)) (omega (arith, q.1))
          (ap (λ (ts : List (List ℕ)). get_or ts 1 []) e),
      decimal_injective n m (omega (arith, p.2)) (omega (arith, q.2))
          (ap (λ (ts : List (List ℕ)). get_or ts 2 []) e),
    )

pub one_sweep : (ws : List (String Global)) (s k n t j m : ℕ) → IsSweep s k n ws → IsSweep t j m ws
    → (s ≡ t) × (k ≡ j) × (n ≡ m)
one_sweep ws s k n t j m p q =
    let e = sym p.0 ∙ q.0 in (
      decimal_injective s t (omega (arith, p.1)) (omega (arith, q.1))
          (ap (λ (ts : List (List ℕ)). get_or ts 1 []) e),
      decimal_injective k j (omega (arith, p.3)) (omega (arith, q.3))
          (ap (λ (ts : List (List ℕ)). get_or ts 2 []) e),
      decimal_injective n m (omega (arith, p.4)) (omega (arith, q.4))
          (ap (λ (ts : List (List ℕ)). get_or ts 3 []) e),
    )
