use Rattle.std.proofs.Common.{rules, ◌≡◌, ◌∷◌, ◌+◌, ◌++◌, ◌∙◌, [], List, ap, arith, length, map, sym}
use Rattle.std.proofs.lemmas.Iterator.Consumers.{YieldsList-end}
use Rattle.std.proofs.lemmas.List.{length-append, map-id}
use Rattle.harp_types.specs.declared.book.BookEntry.{BookEntry}
use Rattle.group_trace.specs.Lines.{entered_lines}
use Rattle.node_outputs.specs.Said.{entered}
use Rattle.world_lines.specs.Book.{BookValue, new_updates, with_updates}
use Rattle.world_lines.proofs.Loops.{begun, drained, grown, reached, whole_range}
use Rattle.world_lines.proofs.Made.{counted_more, lines_more, makes_updates, no_lines, no_updates, updates_made, updates_reached}
use Rattle.world_lines.proofs.book.Book.enter_each.Goals as goal

pub loop-update-init : goal.loop-update-init
loop-update-init c = record {
  entries = begun makes_updates updates_made c.args.self.now.entries c.args.self.now.updates;
  updates = no_updates c.args.self.now.updates c.args.self.now.updates;
  lines = no_lines c.args.lines.now.items (length c.args.self.now.entries)
      c.args.self.now.updates;
}

pub loop-update-preserved : goal.loop-update-preserved
loop-update-preserved c =
    let e = c.in_ok-enter_update.ensures in
    let l = c.loop-update in
    let n = c.args.self.now.updates in
    let first = c.args.self.now.entries in
    let one = new_updates l.self.updates (entered c.in-Some.update ∷ []) in
    let made = new_updates n (map entered l.yielded) in
    let is : l.self.updates ≡ reached makes_updates n l.yielded =
    l.invariant.updates ∙ sym (updates_reached n l.yielded) in
    let place : length l.self.entries ≡ length first + length made =
    ap length l.invariant.entries ∙ length-append first made in
    let grows = counted_more makes_updates updates_made n l.self.updates l.yielded
    c.in-Some.update is in
    let many : c.enter_update.new.self.updates ≡ l.self.updates + length one =
    ap (λ (b : BookValue). b.updates) e.book in
    record {
      entries = ap (λ (b : BookValue). b.entries) e.book
          ∙ grown makes_updates updates_made first l.self.entries n l.self.updates
          l.yielded c.in-Some.update l.invariant.entries is;
      updates = omega (arith, many, grows, l.invariant.updates);
      lines = e.lines ∙ lines_more makes_updates updates_made c.args.lines.now.items l.lines.items
          n l.self.updates (length first) (length l.self.entries) l.yielded c.in-Some.update is
          place l.invariant.lines;
    }

pub returns-clause-book : goal.returns-clause-book
returns-clause-book c =
    let l = c.loop-update in
    let b = c.args.self.now in
    let all = YieldsList-end (drained {s = c.into_iter-update-iterator.result}
    c.args.updates.now.items (search (rules, whole_range)))
    l.yielded l.update-iterator l.yielded_by c.next.result
    c.next.new.self c.in-None.is c.next.ensures.steps in
    let are : l.yielded ≡ c.args.updates.now.items = sym (map-id l.yielded) ∙ all.0 in
    ap (λ es. record { entries = es; updates = l.self.updates }) l.invariant.entries
    ∙ ap (λ n. record {
      entries = b.entries ++ new_updates b.updates (map entered l.yielded);
      updates = n;
    }) l.invariant.updates
    ∙ ap (λ (xs : List BookEntry). with_updates b (new_updates b.updates (map entered xs))) are

pub returns-clause-lines : goal.returns-clause-lines
returns-clause-lines c =
    let l = c.loop-update in
    let b = c.args.self.now in
    let all = YieldsList-end (drained {s = c.into_iter-update-iterator.result}
    c.args.updates.now.items (search (rules, whole_range)))
    l.yielded l.update-iterator l.yielded_by c.next.result
    c.next.new.self c.in-None.is c.next.ensures.steps in
    l.invariant.lines
    ∙ ap (λ (xs : List BookEntry). c.args.lines.now.items
    ++ entered_lines (length b.entries) (new_updates b.updates (map entered xs)))
    (sym (map-id l.yielded) ∙ all.0)
