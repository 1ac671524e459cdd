use Rattle.std.proofs.Common.{◌∙◌, refl, sym, subst, arith}
use Rattle.std.specs.Prelude.{MatchOption, string_bytes}
use Rattle.harpd.specs.declared.words.Serving.{Serving}
use Rattle.harpd.specs.Words.{DoorWords, texts}
use Rattle.harpd.proofs.DoorWordLaws.{five_words, no_cred, of_these}
use Rattle.harpd.proofs.words.serving_of.Goals as goal

pub returns-in_err-cred-in-len5 : goal.returns-in_err-cred-in-len5
returns-in_err-cred-in-len5 c =
    let words = texts c.args.words.now in
    let port = c.port-item-then-words-lt6 in
    let door = c.door-item-then-words-lt6 in
    let client = c.client-item-then-words-lt6 in
    let are = five_words c.args.words.now port.result door.result client.result c.uid-item.result
    c.gid-item.result (omega arith) (omega arith) port.is door.is client.is c.uid-item.is
    c.gid-item.is in
    subst (λ r. MatchOption r ((serves : Serving) → DoorWords serves words → ⊥)
    (λ serves. DoorWords serves words)) (sym c.from_residual.ensures)
    (no_cred words (string_bytes port.result) (string_bytes door.result)
    (string_bytes client.result) (string_bytes c.uid-item.result)
    (string_bytes c.gid-item.result) are (λ u g low high is too.
    c.in_err-cred-in-len5.ensures u g low high (c.as_str-in-len5.ensures.value ∙ is)
    (c.as_str-in-len5-2.ensures.value ∙ too)))

pub returns-in_ok-cred-in-len5 : goal.returns-in_ok-cred-in-len5
returns-in_ok-cred-in-len5 c =
    let port = c.port-item-then-words-lt6 in
    let door = c.door-item-then-words-lt6 in
    let client = c.client-item-then-words-lt6 in
    let are = five_words c.args.words.now port.result door.result client.result c.uid-item.result
    c.gid-item.result (omega arith) (omega arith) port.is door.is client.is c.uid-item.is
    c.gid-item.is in
    of_these (texts c.args.words.now) _ (are ∙ rw (
      c.as_str-in-len5-3.ensures.value,
      c.as_str-in-len5-4.ensures.value,
      c.as_str-in-len5-5.ensures.value,
      ← c.in_ok-cred-in-len5.ensures.2,
      ← c.in_ok-cred-in-len5.ensures.3,
      c.as_str-in-len5.ensures.value,
      c.as_str-in-len5-2.ensures.value,
    ) refl) c.serving_as-in-len5.result c.serving_as-in-len5.ensures
