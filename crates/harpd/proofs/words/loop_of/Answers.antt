use Rattle.std.proofs.Common.{◌∙◌, refl, sym, subst, arith}
use Rattle.std.specs.Prelude.{MatchOption, string_bytes}
use Rattle.harpd.specs.declared.words.Loop.{Loop}
use Rattle.harpd.specs.Words.{LoopWords, texts}
use Rattle.harpd.proofs.WordLaws.{no_delta, of_list, three_words, two_words}
use Rattle.harpd.proofs.words.loop_of.Goals as goal

pub returns-in_err-delta-in-len3 : goal.returns-in_err-delta-in-len3
returns-in_err-delta-in-len3 c =
    let port = c.port-item-then-words-lt4 in
    let folder = c.folder-item-then-words-lt4 in
    let delta = c.delta-item in
    let are = three_words c.args.words.now port.result folder.result delta.result
    (omega arith) (omega arith) port.is folder.is delta.is in
    subst (λ r. MatchOption r ((runs : Loop) → LoopWords runs (texts c.args.words.now) → ⊥)
    (λ runs. LoopWords runs (texts c.args.words.now))) (sym c.from_residual.ensures)
    (no_delta (texts c.args.words.now) (string_bytes port.result) (string_bytes folder.result)
    (string_bytes delta.result) are (λ d within told.
    c.in_err-delta-in-len3.ensures d within (c.as_str-in-len3.ensures.value ∙ told)))

pub returns-in-len2 : goal.returns-in-len2
returns-in-len2 c =
    let are = two_words c.args.words.now c.port-item.result c.folder-item.result
    (omega arith) (omega arith) c.port-item.is c.folder-item.is in
    of_list (texts c.args.words.now) _ (are ∙ rw (
      c.as_str.ensures.value,
      c.as_str-in-len2.ensures.value,
    ) refl) c.loop_with.result c.loop_with.ensures

pub returns-in_ok-delta-in-len3 : goal.returns-in_ok-delta-in-len3
returns-in_ok-delta-in-len3 c =
    let port = c.port-item-then-words-lt4 in
    let folder = c.folder-item-then-words-lt4 in
    let delta = c.delta-item in
    let are = three_words c.args.words.now port.result folder.result delta.result
    (omega arith) (omega arith) port.is folder.is delta.is in
    of_list (texts c.args.words.now) _ (are ∙ rw (
      c.as_str-in-len3-2.ensures.value,
      c.as_str-in-len3-3.ensures.value,
      ← c.in_ok-delta-in-len3.ensures.1,
      c.as_str-in-len3.ensures.value,
    ) refl) c.loop_with-in-len3.result c.loop_with-in-len3.ensures
