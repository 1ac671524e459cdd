use Rattle.std.proofs.Common.{◌≡◌, ◌++◌, ◌∷◌, [], List, Some, arith, length, ap, sym, subst, ◌∙◌}
use Rattle.std.specs.Option.{option_or}
use Rattle.std.proofs.lemmas.List.Sums.{sum_by_push}
use Rattle.world_lines.specs.Kept.{AreFirst, Ways, way, with_way}
use Rattle.world_lines.specs.Posted.{Posted, bytes_of, posted}
use Rattle.world_lines.proofs.Ways.{first_sent}
use Rattle.world_lines.specs.Machine.{StandFor, sent}
use Rattle.world_lines.proofs.Machine.{sent_stand}
use Rattle.world_lines.proofs.packets.Packets.send.Goals as goal

pub invariant_of-self-2 : goal.invariant_of-self-2
invariant_of-self-2 c =
    let ps = c.self.inside.kept.items in
    let due = c.self.inside.due in
    let p = posted c.args.from c.args.to c.args.message in
    let items : c.push.new.self.items ≡ ps ++ p ∷ [] = c.in_ok-push.ensures.items
    ∙ ap (λ (xs : List Posted). xs ++ c.new-kept.result ∷ []) c.make_room.ensures
    ∙ ap (λ (x : Posted). ps ++ x ∷ []) c.new-kept.ensures in
    let size : c.message_size-size.result ≡ bytes_of p = c.message_size-size.ensures in
    let n : c.len-n.result ≡ length ps = omega (arith, c.len-n.ensures, c.self.inside.kept.ok.0) in
    let ways : with_way due c.args.from c.args.to
    (option_or (way due c.args.from c.args.to) (Some (length ps)))
    ≡ c.add_new.new.due =
    ap (λ k. with_way due c.args.from c.args.to
    (option_or (way due c.args.from c.args.to) (Some k))) (sym n)
    ∙ sym c.add_new.ensures in
    record {
      counted = rw items (omega (
        arith,
        c.saturating_add-self-inside.ensures,
        size,
        c.self.invariant.counted,
        sum_by_push bytes_of ps p,
      ));
      first = rw items (subst (λ (w : Ways). AreFirst (ps ++ p ∷ []) w) ways
          (first_sent ps due c.args.from c.args.to c.args.message c.self.invariant.first));
    }

-- of the machine

pub returns-clause-machine : goal.returns-clause-machine
returns-clause-machine c packets numbers body stands is =
    let p = posted c.args.from c.args.to c.args.message in
    let items : c.push.new.self.items ≡ c.args.self.now ++ p ∷ [] = c.in_ok-push.ensures.items
    ∙ ap (λ (xs : List Posted). xs ++ c.new-kept.result ∷ []) c.make_room.ensures
    ∙ ap (λ (x : Posted). c.self.inside.kept.items ++ x ∷ []) c.new-kept.ensures
    ∙ ap (λ (ps : List Posted). ps ++ p ∷ []) c.self.view_is in
    subst (λ (ps : List Posted). StandFor ps (sent c.args.from c.args.to body ∷ packets) numbers)
    (sym items)
    (sent_stand c.args.self.now packets numbers c.args.from c.args.to c.args.message body
    stands is)
