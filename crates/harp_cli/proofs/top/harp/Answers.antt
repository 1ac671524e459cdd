use Rattle.std.proofs.Common.{ap, arith, rules, inl, inr, refl, subst, sym, ◌∙◌}
use Rattle.play_commands.specs.Play.{sizes}
use Rattle.sweep_player.specs.Reading.{summary_of_steps}
use Rattle.harp_cli.specs.declared.words.Command.TheVariants as command
use Rattle.harp_cli.specs.Check.{StatusAgrees}
use Rattle.play_commands.specs.Exit.{status_of}
use Rattle.node_loop.specs.Scene.{all_places}
use Rattle.harp_cli.specs.Gen.{GenEnds}
use Rattle.harp_cli.specs.Words.{AsksFor}
use Rattle.harp_cli.proofs.Checks.{agrees}
use Rattle.harp_cli.proofs.PlayLaws.{TellsWhole, wrote_right}
use Rattle.harp_cli.proofs.ServeLaws.{node_ends, same_ends}
use Rattle.harp_cli.proofs.SweepLaws.{same_sweep}
use Rattle.play_commands.proofs.DoorLaws.{same_door}
use Rattle.harp_cli.proofs.DoorServerLaws.{same_servers}
use Rattle.harp_cli.proofs.DoorWordLaws.{one_door, one_door_play}
use Rattle.harp_cli.proofs.WordLaws.{one_gen, one_group, one_node, one_sweep}
use Rattle.harp_cli.proofs.top.harp.Goals as goal

pub returns-in-Some-Play-clause-complete : goal.returns-in-Some-Play-clause-complete
returns-in-Some-Play-clause-complete g c = λ is text told source sink.
    elim (c.play.ensures.complete text told source sink) [
      | inl e ↦ inl (c.status.ensures ∙ ap status_of e)
      | inr e ↦ inr (c.status.ensures ∙ ap status_of e)
    ]

pub returns-in-Some-Play-clause-accepted : goal.returns-in-Some-Play-clause-accepted
returns-in-Some-Play-clause-accepted g c = λ is text told short status.
    wrote_right c.accepted_texts.ensures.accepted text _ _ _ _ c.play.result
    (c.play.ensures.ends text told) short (subst TellsWhole c.status.ensures status)

pub returns-in-Some-Observe-clause-observe_complete : goal.returns-in-Some-Observe-clause-observe_complete
returns-in-Some-Observe-clause-observe_complete g c = λ is text told source sink.
    elim (c.observe.ensures.complete text told source sink) [
      | inl e ↦ inl (c.status-in-Some-Observe.ensures ∙ ap status_of e)
      | inr e ↦ inr (c.status-in-Some-Observe.ensures ∙ ap status_of e)
    ]

pub returns-in-None-clause-observe : goal.returns-in-None-clause-observe
returns-in-None-clause-observe g c = λ is. absurd (c.in-None.ensures (command.Observe, is))

pub returns-in-None-clause-observe_complete : goal.returns-in-None-clause-observe_complete
returns-in-None-clause-observe_complete g c = λ is text told source sink.
    absurd (c.in-None.ensures (command.Observe, is))

pub returns-in-Some-Check-clause-check_agrees : goal.returns-in-Some-Check-clause-check_agrees
returns-in-Some-Check-clause-check_agrees g c = λ is text told.
    subst (StatusAgrees text) (sym c.status-in-Some-Check.ensures)
    (agrees text _ _ _ c.check.result (c.check.ensures.ends text told))

pub returns-in-Some-Gen-clause-generate : goal.returns-in-Some-Gen-clause-generate
returns-in-Some-Gen-clause-generate g c = λ seed lines is.
    let before = g.K.Sink.written c.args.sink.now in
    let after = g.K.Sink.written c.generate.new.sink in
    let s = c.in-Some-Gen.seed in
    let n = c.in-Some-Gen.lines in
    let asked : AsksFor c.args.words.now (command.Gen s n) =
    subst (AsksFor c.args.words.now) c.in-Some-Gen.field-0-is c.in-Some-Gen.ensures in
    let once = one_gen c.args.words.now s n seed lines asked is in (
      c.generate.result,
      c.status-in-Some-Gen.ensures,
      subst (λ x. GenEnds x lines before after c.generate.result) once.0
          (subst (λ x. GenEnds s x before after c.generate.result) once.1 c.generate.ensures.ends),
      refl,
      refl,
    )

pub sweep-requires : goal.sweep-requires
sweep-requires g c =
    let asked : AsksFor c.args.words.now
    (command.Sweep c.in-Some-Sweep.seed c.in-Some-Sweep.runs c.in-Some-Sweep.lines) =
    subst (AsksFor c.args.words.now) c.in-Some-Sweep.field-0-is c.in-Some-Sweep.ensures in
    (search rules, omega (arith, asked.1, asked.3))

pub returns-in-Some-Sweep-clause-sweep : goal.returns-in-Some-Sweep-clause-sweep
returns-in-Some-Sweep-clause-sweep g c = λ seed runs lines is.
    let before = g.K.Sink.written c.args.sink.now in
    let after = g.K.Sink.written c.sweep.new.sink in
    let s = c.in-Some-Sweep.seed in
    let k = c.in-Some-Sweep.runs in
    let n = c.in-Some-Sweep.lines in
    let asked : AsksFor c.args.words.now (command.Sweep s k n) =
    subst (AsksFor c.args.words.now) c.in-Some-Sweep.field-0-is c.in-Some-Sweep.ensures in
    let once = one_sweep c.args.words.now s k n seed runs lines asked is in (
      c.sweep.result,
      c.status-in-Some-Sweep.ensures,
      same_sweep (summary_of_steps sizes) s k n seed runs lines before after c.sweep.result once.0
          once.1 once.2 c.sweep.ensures.ends,
      refl,
      refl,
    )

pub returns-in-None-clause-sweep : goal.returns-in-None-clause-sweep
returns-in-None-clause-sweep g c = λ seed runs lines is.
    absurd (c.in-None.ensures (command.Sweep seed runs lines, is))

pub returns-in-Some-Node-clause-node : goal.returns-in-Some-Node-clause-node
returns-in-Some-Node-clause-node g c = λ place runs is.
    let words = c.args.words.now in
    let own = c.in-Some-Node.place in
    let loops = c.in-Some-Node.runs in
    let asked : AsksFor words (command.Node own loops) =
    subst (AsksFor words) c.in-Some-Node.field-0-is c.in-Some-Node.ensures in
    let once = one_node words own place loops runs asked is in
    let ends = node_ends g.D.Store.told c.args.disks.now _ _ own place loops runs _ _ _ _ _ _
    c.serve_node.result c.get_mut-disk.ensures.value once.0 once.1 c.serve_node.ensures.ends in (
      c.serve_node.result,
      c.status-in-Some-Node.ensures,
      ends.0,
      ends.1,
      refl,
      refl,
    )

pub returns-in-Some-Group-clause-group : goal.returns-in-Some-Group-clause-group
returns-in-Some-Group-clause-group g c = λ runs is.
    let words = c.args.words.now in
    let loops = c.in-Some-Group.runs in
    let asked : AsksFor words (command.Group loops) =
    subst (AsksFor words) c.in-Some-Group.field-0-is c.in-Some-Group.ensures in
    let once = one_group words loops runs asked is in (
      c.serve_group.result,
      c.status-in-Some-Group.ensures,
      same_ends all_places loops runs _ _ _ _ c.serve_group.result once
          c.serve_group.ensures.ends,
      refl,
      refl,
    )

-- ---- words that serve leave nothing apart

pub returns-in-Some-Node-clause-apart : goal.returns-in-Some-Node-clause-apart
returns-in-Some-Node-clause-apart g c = λ serves audits.
    let words = c.args.words.now in
    let place = c.in-Some-Node.place in
    let runs = c.in-Some-Node.runs in
    let asked : AsksFor words (command.Node place runs) =
    subst (AsksFor words) c.in-Some-Node.field-0-is c.in-Some-Node.ensures in
    absurd (serves (inl (place, runs, asked)))

pub returns-in-Some-Group-clause-apart : goal.returns-in-Some-Group-clause-apart
returns-in-Some-Group-clause-apart g c = λ serves audits.
    let words = c.args.words.now in
    let runs = c.in-Some-Group.runs in
    let asked : AsksFor words (command.Group runs) =
    subst (AsksFor words) c.in-Some-Group.field-0-is c.in-Some-Group.ensures in
    absurd (serves (inr (inl (runs, asked))))

pub returns-in-Some-Door-clause-apart : goal.returns-in-Some-Door-clause-apart
returns-in-Some-Door-clause-apart g c = λ serves audits.
    let words = c.args.words.now in
    let door = c.in-Some-Door.door in
    let asked : AsksFor words (command.Door door) =
    subst (AsksFor words) c.in-Some-Door.field-0-is c.in-Some-Door.ensures in
    absurd (serves (inr (inr (door, asked))))

pub returns-in-None-clause-play : goal.returns-in-None-clause-play
returns-in-None-clause-play g c = λ is. absurd (c.in-None.ensures (command.Play, is))

pub returns-in-None-clause-complete : goal.returns-in-None-clause-complete
returns-in-None-clause-complete g c = λ is text told source sink.
    absurd (c.in-None.ensures (command.Play, is))

pub returns-in-None-clause-check : goal.returns-in-None-clause-check
returns-in-None-clause-check g c = λ is. absurd (c.in-None.ensures (command.Check, is))

pub returns-in-None-clause-generate : goal.returns-in-None-clause-generate
returns-in-None-clause-generate g c = λ seed lines is.
    absurd (c.in-None.ensures (command.Gen seed lines, is))

pub returns-in-None-clause-node : goal.returns-in-None-clause-node
returns-in-None-clause-node g c = λ place runs is.
    absurd (c.in-None.ensures (command.Node place runs, is))

pub returns-in-None-clause-group : goal.returns-in-None-clause-group
returns-in-None-clause-group g c = λ runs is.
    absurd (c.in-None.ensures (command.Group runs, is))

pub returns-in-None-clause-audit : goal.returns-in-None-clause-audit
returns-in-None-clause-audit g c = λ is. absurd (c.in-None.ensures (command.Audit, is))

pub returns-in-None-clause-audit_left : goal.returns-in-None-clause-audit_left
returns-in-None-clause-audit_left g c = λ is list log h told left.
    absurd (c.in-None.ensures (command.Audit, is))

pub returns-in-Some-Audit-clause-audit : goal.returns-in-Some-Audit-clause-audit
returns-in-Some-Audit-clause-audit g c = λ is. (
  c.audit_folder.result,
  c.status-in-Some-Audit.ensures,
  c.audit_folder.ensures.ends,
  c.audit_folder.ensures.kept,
  refl,
  refl,
  refl,
  refl,
  refl,
)

pub returns-in-Some-Audit-clause-audit_left : goal.returns-in-Some-Audit-clause-audit_left
returns-in-Some-Audit-clause-audit_left g c = λ is list log h told left. (
  c.audit_folder.result,
  c.status-in-Some-Audit.ensures,
  c.audit_folder.ensures.tree list log h told left,
)

pub returns-in-None-clause-door_play : goal.returns-in-None-clause-door_play
returns-in-None-clause-door_play g c = λ uid gid is.
    absurd (c.in-None.ensures (command.DoorPlay uid gid, is))

pub returns-in-Some-DoorPlay-clause-door_play : goal.returns-in-Some-DoorPlay-clause-door_play
returns-in-Some-DoorPlay-clause-door_play g c = λ uid gid is.
    let u = c.in-Some-DoorPlay.uid in
    let h = c.in-Some-DoorPlay.gid in
    let asked : AsksFor c.args.words.now (command.DoorPlay u h) =
    subst (AsksFor c.args.words.now) c.in-Some-DoorPlay.field-0-is c.in-Some-DoorPlay.ensures in
    let once = one_door_play c.args.words.now u h uid gid asked is in (
      c.door_play.result,
      c.status-in-Some-DoorPlay.ensures,
      λ input left. same_door u h uid gid input _ _ _ _ c.door_play.result once.0 once.1
          (c.door_play.ensures.ends input left),
    )

pub returns-in-None-clause-door : goal.returns-in-None-clause-door
returns-in-None-clause-door g c = λ door is. absurd (c.in-None.ensures (command.Door door, is))

pub returns-in-Some-Door-clause-door : goal.returns-in-Some-Door-clause-door
returns-in-Some-Door-clause-door g c = λ door is.
    let d = c.in-Some-Door.door in
    let asked : AsksFor c.args.words.now (command.Door d) =
    subst (AsksFor c.args.words.now) c.in-Some-Door.field-0-is c.in-Some-Door.ensures in
    let once = one_door c.args.words.now d door asked is in (
      c.door_to_servers.result,
      c.status-in-Some-Door.ensures,
      refl,
      λ input left. same_servers d door input _ _ _ _ _ c.door_to_servers.result once
          (c.door_to_servers.ensures.ends input left),
    )
