-- The words of the program.
use Rattle.std.proofs.Common.{◌≡◌, ◌<◌, ◌≤◌, ◌^◌, ◌-◌, ℕ, List, [], ◌∷◌, length, get_or, take, drop}
use Rattle.std.proofs.Common.{refl, sym, ap, ◌∙◌, subst, arith, Global, Option, Some, None, decimal}
use Rattle.std.specs.Prelude.{MatchOption, IsSome, IfSome, ◌↔◌, String, codes, string_bytes}
use Rattle.std.proofs.lemmas.Fmt.{decimal_injective}
use Rattle.std.proofs.lemmas.Grind.{common_steps}
use Rattle.promise.specs.Promise.{IsDelta}
use Rattle.harp_types.specs.Server.{number_of}
use Rattle.harpd.specs.declared.words.Loop.{Loop}
use Rattle.harpd.specs.declared.words.Serving.{Serving}
use Rattle.harpd.specs.declared.words.Command.{Command}
use Rattle.harpd.specs.declared.words.Command.TheVariants as command
use Rattle.harpd.specs.Words.{AsksFor, DoorWords, FolderWords, IsForm, LoopWords, Named}
use Rattle.harpd.specs.Words.{ServerWords, delta_of, delta_words, texts}

-- ---- lists of words

-- the bytes of the first word, and those of the others
pub first_word : (ws : List (String Global)) (w : String Global) → 1 ≤ length ws
    → w ≡ get_or ws 0 w
    → texts ws ≡ string_bytes w ∷ texts (take (length ws - 1) (drop 1 ws))
first_word [] w some is = absurd (omega arith)
first_word (x ∷ xs) w some is =
    let rest : take (length (x ∷ xs) - 1) (drop 1 (x ∷ xs)) ≡ xs = grind (arith, common_steps) in
    rw (is, rest) refl

pub two_words : (ws : List (String Global)) (a b : String Global) → 2 ≤ length ws
    → length ws < 3 → a ≡ get_or ws 0 a → b ≡ get_or ws 1 b
    → texts ws ≡ string_bytes a ∷ string_bytes b ∷ []
two_words [] a b some few p q = absurd (omega arith)
two_words (x ∷ []) a b some few p q = absurd (omega arith)
two_words (x ∷ y ∷ []) a b some few p q = rw (p, q) refl
two_words (x ∷ y ∷ z ∷ ws) a b some few p q = absurd (omega arith)

pub three_words : (ws : List (String Global)) (a b d : String Global) → 3 ≤ length ws
    → length ws < 4 → a ≡ get_or ws 0 a → b ≡ get_or ws 1 b → d ≡ get_or ws 2 d
    → texts ws ≡ string_bytes a ∷ string_bytes b ∷ string_bytes d ∷ []
three_words [] a b d some few p q r = absurd (omega arith)
three_words (x ∷ []) a b d some few p q r = absurd (omega arith)
three_words (x ∷ y ∷ []) a b d some few p q r = absurd (omega arith)
three_words (x ∷ y ∷ z ∷ []) a b d some few p q r = rw (p, q, r) refl
three_words (x ∷ y ∷ z ∷ t ∷ ws) a b d some few p q r = absurd (omega arith)

pub one_word : (ws : List (String Global)) (a : String Global) → 1 ≤ length ws → length ws < 2
    → a ≡ get_or ws 0 a → texts ws ≡ string_bytes a ∷ []
one_word [] a some few p = absurd (omega (arith, some))
one_word (x ∷ []) a some few p = rw p refl
one_word (x ∷ y ∷ ws) a some few p = absurd (omega (arith, few))

-- ---- how a server is run

pub delta_found : (r : Option ℕ) (word : List ℕ) (n : ℕ) → word ≡ decimal n → n < 2 ^ 64
    → (IsSome r ↔ IsDelta n) → IfSome r (λ d. d ≡ n)
    → MatchOption r ((delta : ℕ) → IsDelta delta → word ≡ decimal delta → ⊥)
    (λ delta. IsDelta delta × (word ≡ decimal delta))
delta_found None word n is small found value = λ delta within told.
    let same : delta ≡ n = decimal_injective delta n (omega (arith, within.1)) small
    (sym told ∙ is) in
    let some = found.1 (subst IsDelta same within) in
    absurd cc
delta_found (Some d) word n is small found value =
    (subst IsDelta (sym value) (found.0 refl), is ∙ ap decimal (sym value))

-- what words tell, by another spelling of them
pub of_list : (words list : List (List ℕ)) → words ≡ list → (r : Option Loop)
    → MatchOption r ((runs : Loop) → LoopWords runs list → ⊥) (λ runs. LoopWords runs list)
    → MatchOption r ((runs : Loop) → LoopWords runs words → ⊥) (λ runs. LoopWords runs words)
of_list words list are None none = λ runs told. none runs (subst (LoopWords runs) are told)
of_list words list are (Some runs) told = subst (LoopWords runs) (sym are) told

told_length : (o : Option ℕ) (word : List ℕ) → delta_words o ≡ word ∷ [] → IsDelta (delta_of o)
    → ((delta : ℕ) → IsDelta delta → word ≡ decimal delta → ⊥) → ⊥
told_length None word is within none = absurd cc
told_length (Some d) word is within none =
    none d within (sym (ap (λ (ts : List (List ℕ)). get_or ts 0 []) is))

-- a word that is no length of promises
pub no_delta : (words : List (List ℕ)) (port folder word : List ℕ)
    → words ≡ port ∷ folder ∷ word ∷ []
    → ((delta : ℕ) → IsDelta delta → word ≡ decimal delta → ⊥) → (runs : Loop)
    → LoopWords runs words → ⊥
no_delta words port folder word are none runs told =
    told_length runs.delta word (ap (drop 2) (sym told.are ∙ are)) told.within.delta none

-- ---- a command by its first word

front : (ws : List (List ℕ)) (name : List ℕ) (rest : List (List ℕ)) (other : List ℕ)
    (more : List (List ℕ)) → ws ≡ name ∷ rest → ws ≡ other ∷ more → (other ≡ name) × (more ≡ rest)
front ws name rest other more p q =
    let same = sym q ∙ p in
    (ap (λ (ts : List (List ℕ)). get_or ts 0 []) same, ap (drop 1) same)

named : (ws : List (String Global)) (name : List ℕ) (rest : List (List ℕ)) → texts ws ≡ name ∷ rest
    → (c : Command) → AsksFor ws c → Named name rest c
named ws name rest are (command.Server place runs) p =
    let same = front (texts ws) name rest (codes "server") p.rest are p.are in
    (same.0, subst (ServerWords place runs) same.1 p.server_words)
named ws name rest are (command.Door serves) p =
    let same = front (texts ws) name rest (codes "serve") p.rest are p.are in
    (same.0, subst (DoorWords serves) same.1 p.door_words)
named ws name rest are command.Init p =
    let same = front (texts ws) name rest (codes "init") p.rest are p.are in
    (same.0, subst FolderWords same.1 p.folder_words)
named ws name rest are command.Help p =
    let same = front (texts ws) name rest (codes "help") [] are p in
    (same.0, sym same.1)
named ws name rest are command.Version p =
    let same = front (texts ws) name rest (codes "version") [] are p in
    (same.0, sym same.1)

asks : (ws : List (String Global)) (name : List ℕ) (rest : List (List ℕ)) → texts ws ≡ name ∷ rest
    → (c : Command) → Named name rest c → AsksFor ws c
asks ws name rest are (command.Server place runs) p =
    record { rest = rest; are = are ∙ ap (λ t. t ∷ rest) (sym p.0); server_words = p.1 }
asks ws name rest are (command.Door serves) p =
    record { rest = rest; are = are ∙ ap (λ t. t ∷ rest) (sym p.0); door_words = p.1 }
asks ws name rest are command.Init p =
    record { rest = rest; are = are ∙ ap (λ t. t ∷ rest) (sym p.0); folder_words = p.1 }
asks ws name rest are command.Help p =
    are ∙ ap (λ t. t ∷ rest) (sym p.0) ∙ ap (λ ts. codes "help" ∷ ts) p.1
asks ws name rest are command.Version p =
    are ∙ ap (λ t. t ∷ rest) (sym p.0) ∙ ap (λ ts. codes "version" ∷ ts) p.1

pub by_name : (ws : List (String Global)) (name : List ℕ) (rest : List (List ℕ))
    → texts ws ≡ name ∷ rest → (r : Option Command)
    → MatchOption r ((c : Command) → Named name rest c → ⊥) (Named name rest)
    → MatchOption r (IsForm ws → ⊥) (AsksFor ws)
by_name ws name rest are None none = λ form. none form.0 (named ws name rest are form.0 form.1)
by_name ws name rest are (Some c) is = asks ws name rest are c is

-- names differ in their first letters, or in their lengths
unfoldable pub first : List ℕ → ℕ
first name = get_or name 0 0

unfoldable pub size : List ℕ → ℕ
size name = length name

only_help : (rest : List (List ℕ)) (c : Command) → Named (codes "help") rest c → rest ≡ []
unfolding first
only_help rest (command.Server place runs) p =
    let e : 115 ≡ 104 = ap first p.0 in absurd (omega (arith, e))
only_help rest (command.Door serves) p =
    let e : 115 ≡ 104 = ap first p.0 in absurd (omega (arith, e))
only_help rest command.Init p = let e : 105 ≡ 104 = ap first p.0 in absurd (omega (arith, e))
only_help rest command.Help p = p.1
only_help rest command.Version p = let e : 118 ≡ 104 = ap first p.0 in absurd (omega (arith, e))

only_version : (rest : List (List ℕ)) (c : Command) → Named (codes "version") rest c → rest ≡ []
unfolding first
only_version rest (command.Server place runs) p =
    let e : 115 ≡ 118 = ap first p.0 in absurd (omega (arith, e))
only_version rest (command.Door serves) p =
    let e : 115 ≡ 118 = ap first p.0 in absurd (omega (arith, e))
only_version rest command.Init p = let e : 105 ≡ 118 = ap first p.0 in absurd (omega (arith, e))
only_version rest command.Help p = let e : 104 ≡ 118 = ap first p.0 in absurd (omega (arith, e))
only_version rest command.Version p = p.1

pub help_alone : (rest : List (List ℕ)) (r : Option Command)
    → MatchOption r (rest ≡ [] → ⊥) (λ c. (c ≡ command.Help) × (rest ≡ []))
    → MatchOption r ((c : Command) → Named (codes "help") rest c → ⊥) (Named (codes "help") rest)
help_alone rest None none = λ c p. none (only_help rest c p)
help_alone rest (Some c) is = subst (Named (codes "help") rest) (sym is.0) (refl, is.1)

pub version_alone : (rest : List (List ℕ)) (r : Option Command)
    → MatchOption r (rest ≡ [] → ⊥) (λ c. (c ≡ command.Version) × (rest ≡ []))
    → MatchOption r ((c : Command) → Named (codes "version") rest c → ⊥)
    (Named (codes "version") rest)
version_alone rest None none = λ c p. none (only_version rest c p)
version_alone rest (Some c) is = subst (Named (codes "version") rest) (sym is.0) (refl, is.1)

-- words behind `server` of which the first isn't followed by how a server is run
pub no_loop : (words rest : List (List ℕ)) (word : List ℕ) → words ≡ word ∷ rest
    → ((runs : Loop) → LoopWords runs rest → ⊥) → (c : Command)
    → Named (codes "server") words c → ⊥
unfolding first size
no_loop words rest word are none (command.Server place runs) p =
    let same = front words word rest (decimal (number_of place)) p.1.rest are p.1.are in
    none runs (subst (LoopWords runs) same.1 p.1.loop_words)
no_loop words rest word are none (command.Door serves) p =
    let e : 5 ≡ 6 = ap size p.0 in absurd (omega (arith, e))
no_loop words rest word are none command.Init p =
    let e : 105 ≡ 115 = ap first p.0 in absurd (omega (arith, e))
no_loop words rest word are none command.Help p =
    let e : 104 ≡ 115 = ap first p.0 in absurd (omega (arith, e))
no_loop words rest word are none command.Version p =
    let e : 118 ≡ 115 = ap first p.0 in absurd (omega (arith, e))

-- words behind `init` that aren't a folder's name
pub no_folder : (words : List (List ℕ)) → (FolderWords words → ⊥) → (c : Command)
    → Named (codes "init") words c → ⊥
unfolding first
no_folder words none (command.Server place runs) p =
    let e : 115 ≡ 105 = ap first p.0 in absurd (omega (arith, e))
no_folder words none (command.Door serves) p =
    let e : 115 ≡ 105 = ap first p.0 in absurd (omega (arith, e))
no_folder words none command.Init p = none p.1
no_folder words none command.Help p =
    let e : 104 ≡ 105 = ap first p.0 in absurd (omega (arith, e))
no_folder words none command.Version p =
    let e : 118 ≡ 105 = ap first p.0 in absurd (omega (arith, e))

-- words behind `serve` that don't say how connections are served
pub no_serving : (words : List (List ℕ)) → ((serves : Serving) → DoorWords serves words → ⊥)
    → (c : Command) → Named (codes "serve") words c → ⊥
unfolding first size
no_serving words none (command.Server place runs) p =
    let e : 6 ≡ 5 = ap size p.0 in absurd (omega (arith, e))
no_serving words none (command.Door serves) p = none serves p.1
no_serving words none command.Init p =
    let e : 105 ≡ 115 = ap first p.0 in absurd (omega (arith, e))
no_serving words none command.Help p =
    let e : 104 ≡ 115 = ap first p.0 in absurd (omega (arith, e))
no_serving words none command.Version p =
    let e : 118 ≡ 115 = ap first p.0 in absurd (omega (arith, e))

-- several words are no folder's name, and neither is none, nor an empty one
pub no_one_word : (words : List (List ℕ)) → (length words ≡ 1 → ⊥) → FolderWords words → ⊥
no_one_word words other is = other (ap length is.are)

pub no_name : (words : List (List ℕ)) (word : List ℕ) → words ≡ word ∷ [] → word ≡ []
    → FolderWords words → ⊥
no_name words word are empty is =
    is.named (ap (λ (ts : List (List ℕ)). get_or ts 0 []) (sym is.are ∙ are) ∙ empty)
