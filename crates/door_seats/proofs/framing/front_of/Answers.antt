use Rattle.std.proofs.Common.{◌+◌, ◌-◌, ◌≡◌, List, arith, drop, length, length-drop, subst, sym, take, ap, ℕ, ◌∙◌}
use Rattle.std.proofs.lemmas.List.{take_all}
use Rattle.rpc_door.specs.Marks.{Whole}
use Rattle.door_seats.proofs.FrontLaws.{IsWithin, past_large, past_short, within_ends, within_last, within_long, within_more}
use Rattle.door_seats.proofs.framing.front_of.Goals as goal

-- all that is behind a place
all_behind : (taken : ℕ) (bytes : List ℕ)
    → take (length bytes - taken) (drop taken bytes) ≡ drop taken bytes
all_behind taken bytes =
    take_all (length bytes - taken) (drop taken bytes) (omega (arith, length-drop taken bytes))

pub returns-then-is_last : goal.returns-then-is_last
returns-then-is_last c =
    let bytes = c.args.bytes.now in
    let rest = all_behind c.loop.taken bytes in
    let len : c.len.result ≡ length c.loop.request.items = omega arith in
    let p = rw (len, rest) at c.in-Part.ensures in
    let size : 4 + c.in-Part.size - 4 ≡ c.in-Part.size = omega arith in
    let items = rw (rest, size) at c.in_ok-extend_from_slice-in-Part.ensures.items in
    within_last bytes c.loop.request.items c.loop.taken c.loop.counter c.loop.invariant
    c.in-Part.size p.0 p.1 (omega arith) (rw c.if-is_last.true at p.2)
    ∙ ap (λ (s : List ℕ). Whole s (drop (c.loop.taken + (4 + c.in-Part.size)) bytes))
    (sym (c.new-request-then-is_last.ensures ∙ items))

pub returns-in-Ends : goal.returns-in-Ends
returns-in-Ends c =
    let rest = all_behind c.loop.taken c.args.bytes.now in
    let len : c.len.result ≡ length c.loop.request.items = omega arith in
    within_ends c.args.bytes.now c.loop.request.items c.loop.taken c.loop.counter c.loop.invariant
    (omega arith) (rw (len, rest) at c.in-Ends.ensures)

pub returns-in-Long : goal.returns-in-Long
returns-in-Long c =
    let rest = all_behind c.loop.taken c.args.bytes.now in
    let len : c.len.result ≡ length c.loop.request.items = omega arith in
    within_long c.args.bytes.now c.loop.request.items c.loop.taken c.loop.counter c.loop.invariant
    (omega arith) (rw (len, rest) at c.in-Long.ensures)

pub loop-preserved : goal.loop-preserved
loop-preserved c =
    let bytes = c.args.bytes.now in
    let rest = all_behind c.loop.taken bytes in
    let len : c.len.result ≡ length c.loop.request.items = omega arith in
    let p = rw (len, rest) at c.in-Part.ensures in
    let size : 4 + c.in-Part.size - 4 ≡ c.in-Part.size = omega arith in
    let items = rw (rest, size) at c.in_ok-extend_from_slice-in-Part.ensures.items in
    let taken = c.loop.taken + (4 + c.in-Part.size) in
    subst (λ (s : List ℕ). IsWithin bytes s taken (c.loop.counter + 1)) (sym items)
    (within_more bytes c.loop.request.items c.loop.taken c.loop.counter c.loop.invariant
    c.in-Part.size p.0 p.1 (omega arith) (rw c.if-is_last.false at p.2))

pub returns-then-bytes-taken-lt-MARK : goal.returns-then-bytes-taken-lt-MARK
returns-then-bytes-taken-lt-MARK c =
    past_short _ _ _ _ c.loop.invariant (omega arith) c.if-bytes-taken-lt-MARK.true

pub returns : goal.returns
returns c = past_large _ _ _ _ c.loop.invariant (omega arith) c.if-bytes-taken-lt-MARK.false
