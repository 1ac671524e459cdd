use Rattle.std.proofs.Common.{ap, arith, length, refl, subst, sym}
use Rattle.std.specs.Prelude.{MatchOption, codes}
use Rattle.harp_cli.specs.declared.words.Command.{Command}
use Rattle.harp_cli.specs.Words.{DoorWords, Named, texts}
use Rattle.harp_cli.proofs.DoorWordLaws.{no_door, play_length, six_texts}
use Rattle.harp_cli.proofs.door_words.door_of.Goals as goal

pub returns-in_err-door-in-len6 : goal.returns-in_err-door-in-len6
returns-in_err-door-in-len6 c =
    let words = texts c.args.words.now in
    let uid = c.uid-item-then-words-lt7 in
    let gid = c.gid-item-then-words-lt7 in
    let are = six_texts c.args.words.now uid.result gid.result c.client-item.result
    c.port-item.result c.folder-item.result c.turns-item.result _ _ _ _ _ _ (omega arith)
    (omega arith) uid.is gid.is c.client-item.is c.port-item.is c.folder-item.is c.turns-item.is
    c.as_str-in-len6.ensures.value c.as_str-in-len6-2.ensures.value
    c.as_str-in-len6-3.ensures.value c.as_str-in-len6-4.ensures.value
    c.as_str-in-len6-5.ensures.value c.as_str-in-len6-6.ensures.value in
    subst (λ r. MatchOption r ((asked : Command) → Named (codes "door") words asked → ⊥)
    (Named (codes "door") words)) (sym c.from_residual-in_err-door-in-len6.ensures)
    (no_door words
    (λ uid gid p. absurd (omega (arith, play_length words uid gid p, ap length are)))
    (λ door p. c.in_err-door-in-len6.ensures door (subst (DoorWords door) are p)))

pub returns-in_ok-door-in-len6 : goal.returns-in_ok-door-in-len6
returns-in_ok-door-in-len6 c =
    let uid = c.uid-item-then-words-lt7 in
    let gid = c.gid-item-then-words-lt7 in
    let are = six_texts c.args.words.now uid.result gid.result c.client-item.result
    c.port-item.result c.folder-item.result c.turns-item.result _ _ _ _ _ _ (omega arith)
    (omega arith) uid.is gid.is c.client-item.is c.port-item.is c.folder-item.is c.turns-item.is
    c.as_str-in-len6.ensures.value c.as_str-in-len6-2.ensures.value
    c.as_str-in-len6-3.ensures.value c.as_str-in-len6-4.ensures.value
    c.as_str-in-len6-5.ensures.value c.as_str-in-len6-6.ensures.value in (
      refl,
      subst (DoorWords c.in_ok-door-in-len6.door) (sym are) c.in_ok-door-in-len6.ensures,
    )
