use Rattle.std.proofs.Common.{◌≡◌, ◌≤◌, ◌∙◌, ◌-◌, ◌∷◌, ℕ, List, Global, get_or, length, take, drop}
use Rattle.std.proofs.Common.{ap, sym}
use Rattle.std.specs.Prelude.{String, codes, string_bytes}
use Rattle.std.specs.Cmp.Lexicographic.{same_text}
use Rattle.harp_cli.specs.Words.{texts}
use Rattle.harp_cli.proofs.WordLaws.{by_name, check_alone, first_word, observe_alone, play_alone}
use Rattle.harp_cli.proofs.words.command_of.Goals as goal

-- the words behind the first one
rest : List (String Global) → List (List ℕ)
rest words = texts (take (length words - 1) (drop 1 words))

begin_with : (words : List (String Global)) (w : String Global) (text name : List ℕ)
    → 1 ≤ length words → w ≡ get_or words 0 w → text ≡ string_bytes w → text ≡ name
    → texts words ≡ name ∷ rest words
unfolding rest
begin_with words w text name some is told named = first_word words w some is
    ∙ ap (λ t. t ∷ texts (take (length words - 1) (drop 1 words))) (sym told ∙ named)

pub returns-then-eq : goal.returns-then-eq
unfolding rest
returns-then-eq c =
    let words = c.args.words.now in
    let text = c.as_str-word.result.now in
    let named = same_text text (codes "play") c.if-eq.ensures in
    by_name words (codes "play") (rest words)
    (begin_with words c.word-item.result text (codes "play") c.in-len1-up.len_at_least
    c.word-item.is c.as_str-word.ensures.value named)
    c.alone.result (play_alone (rest words) c.alone.result c.alone.ensures)

pub returns-then-eq-2 : goal.returns-then-eq-2
unfolding rest
returns-then-eq-2 c =
    let words = c.args.words.now in
    let text = c.as_str-word.result.now in
    let named = same_text text (codes "check") c.if-eq-2.ensures in
    by_name words (codes "check") (rest words)
    (begin_with words c.word-item.result text (codes "check") c.in-len1-up.len_at_least
    c.word-item.is c.as_str-word.ensures.value named)
    c.alone-then-eq-2.result
    (check_alone (rest words) c.alone-then-eq-2.result c.alone-then-eq-2.ensures)

pub returns-then-eq-3 : goal.returns-then-eq-3
unfolding rest
returns-then-eq-3 c =
    let words = c.args.words.now in
    let text = c.as_str-word.result.now in
    let named = same_text text (codes "observe") c.if-eq-3.ensures in
    by_name words (codes "observe") (rest words)
    (begin_with words c.word-item.result text (codes "observe") c.in-len1-up.len_at_least
    c.word-item.is c.as_str-word.ensures.value named)
    c.alone-then-eq-3.result
    (observe_alone (rest words) c.alone-then-eq-3.result c.alone-then-eq-3.ensures)

pub returns-then-eq-4 : goal.returns-then-eq-4
unfolding rest
returns-then-eq-4 c =
    let words = c.args.words.now in
    let text = c.as_str-word.result.now in
    let named = same_text text (codes "gen") c.if-eq-4.ensures in
    by_name words (codes "gen") (rest words)
    (begin_with words c.word-item.result text (codes "gen") c.in-len1-up.len_at_least
    c.word-item.is c.as_str-word.ensures.value named) c.gen_of.result c.gen_of.ensures

pub returns-then-eq-5 : goal.returns-then-eq-5
unfolding rest
returns-then-eq-5 c =
    let words = c.args.words.now in
    let text = c.as_str-word.result.now in
    let named = same_text text (codes "sweep") c.if-eq-5.ensures in
    by_name words (codes "sweep") (rest words)
    (begin_with words c.word-item.result text (codes "sweep") c.in-len1-up.len_at_least
    c.word-item.is c.as_str-word.ensures.value named) c.sweep_of.result c.sweep_of.ensures

pub returns-then-eq-6 : goal.returns-then-eq-6
unfolding rest
returns-then-eq-6 c =
    let words = c.args.words.now in
    let text = c.as_str-word.result.now in
    let named = same_text text (codes "node") c.if-eq-6.ensures in
    by_name words (codes "node") (rest words)
    (begin_with words c.word-item.result text (codes "node") c.in-len1-up.len_at_least
    c.word-item.is c.as_str-word.ensures.value named) c.node_of.result c.node_of.ensures

pub returns-then-eq-7 : goal.returns-then-eq-7
unfolding rest
returns-then-eq-7 c =
    let words = c.args.words.now in
    let text = c.as_str-word.result.now in
    let named = same_text text (codes "group") c.if-eq-7.ensures in
    by_name words (codes "group") (rest words)
    (begin_with words c.word-item.result text (codes "group") c.in-len1-up.len_at_least
    c.word-item.is c.as_str-word.ensures.value named) c.group_of.result c.group_of.ensures

pub returns-then-eq-8 : goal.returns-then-eq-8
unfolding rest
returns-then-eq-8 c =
    let words = c.args.words.now in
    let text = c.as_str-word.result.now in
    let named = same_text text (codes "audit") c.if-eq-8.ensures in
    by_name words (codes "audit") (rest words)
    (begin_with words c.word-item.result text (codes "audit") c.in-len1-up.len_at_least
    c.word-item.is c.as_str-word.ensures.value named) c.audit_of.result c.audit_of.ensures

pub returns-then-eq-9 : goal.returns-then-eq-9
unfolding rest
returns-then-eq-9 c =
    let words = c.args.words.now in
    let text = c.as_str-word.result.now in
    let named = same_text text (codes "door") c.if-eq-9.ensures in
    by_name words (codes "door") (rest words)
    (begin_with words c.word-item.result text (codes "door") c.in-len1-up.len_at_least
    c.word-item.is c.as_str-word.ensures.value named) c.door_of.result c.door_of.ensures
