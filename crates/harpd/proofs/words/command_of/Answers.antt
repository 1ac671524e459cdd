use Rattle.std.proofs.Common.{◌≡◌, ◌≤◌, ◌∙◌, ◌-◌, ◌∷◌, ℕ, List, Global, get_or, length, take, drop}
use Rattle.std.proofs.Common.{ap, sym}
use Rattle.std.specs.Prelude.{String, codes, string_bytes}
use Rattle.std.specs.Cmp.Lexicographic.{same_text}
use Rattle.harpd.specs.Words.{texts}
use Rattle.harpd.proofs.WordLaws.{by_name, first_word, help_alone, version_alone}
use Rattle.harpd.proofs.words.command_of.Goals as goal

-- the words behind the first one
rest : List (String Global) → List (List ℕ)
rest words = texts (take (length words - 1) (drop 1 words))

begin_with : (words : List (String Global)) (w : String Global) (text name : List ℕ)
    → 1 ≤ length words → w ≡ get_or words 0 w → text ≡ string_bytes w → text ≡ name
    → texts words ≡ name ∷ rest words
unfolding rest
begin_with words w text name some is told named = first_word words w some is
    ∙ ap (λ t. t ∷ texts (take (length words - 1) (drop 1 words))) (sym told ∙ named)

pub returns-then-eq : goal.returns-then-eq
unfolding rest
returns-then-eq c =
    let words = c.args.words.now in
    let text = c.as_str-word.result.now in
    let named = same_text text (codes "server") c.if-eq.ensures in
    by_name words (codes "server") (rest words)
    (begin_with words c.word-item.result text (codes "server") c.in-len1-up.len_at_least
    c.word-item.is c.as_str-word.ensures.value named) c.server_of.result c.server_of.ensures

pub returns-then-eq-2 : goal.returns-then-eq-2
unfolding rest
returns-then-eq-2 c =
    let words = c.args.words.now in
    let text = c.as_str-word.result.now in
    let named = same_text text (codes "serve") c.if-eq-2.ensures in
    by_name words (codes "serve") (rest words)
    (begin_with words c.word-item.result text (codes "serve") c.in-len1-up.len_at_least
    c.word-item.is c.as_str-word.ensures.value named) c.door_of.result c.door_of.ensures

pub returns-then-eq-3 : goal.returns-then-eq-3
unfolding rest
returns-then-eq-3 c =
    let words = c.args.words.now in
    let text = c.as_str-word.result.now in
    let named = same_text text (codes "init") c.if-eq-3.ensures in
    by_name words (codes "init") (rest words)
    (begin_with words c.word-item.result text (codes "init") c.in-len1-up.len_at_least
    c.word-item.is c.as_str-word.ensures.value named) c.init_of.result c.init_of.ensures

pub returns-then-eq-4 : goal.returns-then-eq-4
unfolding rest
returns-then-eq-4 c =
    let words = c.args.words.now in
    let text = c.as_str-word.result.now in
    let named = same_text text (codes "help") c.if-eq-4.ensures in
    by_name words (codes "help") (rest words)
    (begin_with words c.word-item.result text (codes "help") c.in-len1-up.len_at_least
    c.word-item.is c.as_str-word.ensures.value named)
    c.alone.result (help_alone (rest words) c.alone.result c.alone.ensures)

pub returns-then-eq-5 : goal.returns-then-eq-5
unfolding rest
returns-then-eq-5 c =
    let words = c.args.words.now in
    let text = c.as_str-word.result.now in
    let named = same_text text (codes "version") c.if-eq-5.ensures in
    by_name words (codes "version") (rest words)
    (begin_with words c.word-item.result text (codes "version") c.in-len1-up.len_at_least
    c.word-item.is c.as_str-word.ensures.value named)
    c.alone-then-eq-5.result
    (version_alone (rest words) c.alone-then-eq-5.result c.alone-then-eq-5.ensures)
