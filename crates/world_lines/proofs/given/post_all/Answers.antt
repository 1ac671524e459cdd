use Rattle.std.proofs.Common.{rules, ◌≡◌, ◌++◌, List, ap, length, refl, sym, ◌∙◌}
use Rattle.std.proofs.lemmas.Iterator.Consumers.{YieldsList-end}
use Rattle.std.proofs.lemmas.List.{length-append, map-id}
use Rattle.node_outputs.specs.declared.outputs.Sent.{Sent}
use Rattle.world_lines.specs.Given.{packets_of, sent_lines}
use Rattle.world_lines.proofs.Loops.{begun, drained, grown, reached, whole_range}
use Rattle.world_lines.proofs.Made.{makes_packets, makes_send_lines, packets_made, packets_reached, send_lines_made, uncounted}
use Rattle.world_lines.proofs.given.post_all.Goals as goal

pub loop-send-init : goal.loop-send-init
loop-send-init c = record {
  packets = begun (makes_packets c.args.from) (packets_made c.args.from) c.args.packets.now 0;
  lines = begun (makes_send_lines c.args.from) (send_lines_made c.args.from) c.args.lines.now.items
      (length c.args.packets.now);
}

pub loop-send-preserved : goal.loop-send-preserved
loop-send-preserved c =
    let e = c.in_ok-post.ensures in
    let l = c.loop-send in
    let m = makes_packets c.args.from in
    let n = length c.args.packets.now in
    let is : length l.packets ≡ reached (makes_send_lines c.args.from) n l.yielded =
    ap length l.invariant.packets
    ∙ length-append c.args.packets.now (packets_of c.args.from l.yielded)
    ∙ sym (packets_reached c.args.from n l.yielded) in
    record {
      packets = e.packets ∙ grown m (packets_made c.args.from) c.args.packets.now l.packets 0 0
          l.yielded c.in-Some.send l.invariant.packets
          (sym (uncounted m (λ n x. refl) 0 l.yielded));
      lines = e.lines ∙ grown (makes_send_lines c.args.from) (send_lines_made c.args.from)
          c.args.lines.now.items l.lines.items n (length l.packets) l.yielded c.in-Some.send
          l.invariant.lines is;
    }

pub returns-clause-packets : goal.returns-clause-packets
returns-clause-packets c =
    let l = c.loop-send in
    let all = YieldsList-end (drained {s = c.into_iter-send-iterator.result}
    c.args.sends.now.items (search (rules, whole_range)))
    l.yielded l.send-iterator l.yielded_by c.next.result
    c.next.new.self c.in-None.is c.next.ensures.steps in
    l.invariant.packets ∙ ap (λ (xs : List Sent). c.args.packets.now
    ++ packets_of c.args.from xs) (sym (map-id l.yielded) ∙ all.0)

pub returns-clause-lines : goal.returns-clause-lines
returns-clause-lines c =
    let l = c.loop-send in
    let all = YieldsList-end (drained {s = c.into_iter-send-iterator.result}
    c.args.sends.now.items (search (rules, whole_range)))
    l.yielded l.send-iterator l.yielded_by c.next.result
    c.next.new.self c.in-None.is c.next.ensures.steps in
    l.invariant.lines ∙ ap (λ (xs : List Sent). c.args.lines.now.items
    ++ sent_lines c.args.from (length c.args.packets.now) xs) (sym (map-id l.yielded) ∙ all.0)
