-- Each field of a generated step is within its bounds.
use Rattle.std.proofs.Common.{ℕ, zero, suc, ◌+◌, ◌<◌, ◌^◌, ◌==◌, ◌&&◌, not, Bool, true, false, List, [], ◌∷◌, get_or, slice_index, All, if◌then◌else◌, inl, lit<, lit≤, arith}
use Rattle.std.proofs.Math.Nat.{mod-lt}
use Rattle.std.proofs.lemmas.List.Elements.{All-cons, All-append}
use Rattle.harp_types.specs.Trio.{value_of}
use Rattle.harp_types.specs.declared.server.ServerId.{ServerId}
use Rattle.harp_types.specs.declared.server.ServerId.TheVariants.{Zero, One, Two}
use Rattle.text_spelling.specs.Fits.{AreBytes, SetAttrFits, CallFits, PairFits}
use Rattle.text_spelling.specs.StepFits.{StepFits}
use Rattle.harp_types.specs.declared.pick.Pick.TheVariants as pick
use Rattle.trace_types.specs.declared.step.Step.TheVariants as step
use Rattle.sweep.specs.Draws.{below}
use Rattle.sweep.specs.Calls.{handle, name, entry, with_mode, call_kind, call_of_entry, write, rename, call_of_kind, any_call}
use Rattle.sweep.specs.Lines.{Made, AreUpTo, ask_at, ask, boot, fail, advance, pump_two, server_of, line_at, line_at_any, line_kind, line_of_kind, next_line, drawn_lines, opening, generated, generator_of, with_draws, with_up}
use Rattle.sweep.specs.declared.draws.Draws.{Draws}
use Rattle.sweep.specs.declared.calls.EntryCall.{EntryCall}
use Rattle.sweep.specs.declared.calls.EntryCall.TheVariants as of
use Rattle.sweep.specs.declared.calls.CallKind.{CallKind}
use Rattle.sweep.specs.declared.calls.CallKind.TheVariants as call_kinds
use Rattle.sweep.specs.declared.generator.Generator.{Generator}
use Rattle.sweep.specs.declared.line_kind.LineKind.{LineKind}
use Rattle.sweep.specs.declared.line_kind.LineKind.TheVariants as kind
use Rattle.sweep.specs.declared.line_kind.ServerLine.{ServerLine}
use Rattle.sweep.specs.declared.line_kind.ServerLine.TheVariants as line
use Rattle.sweep.proofs.NumberLaws.{next_number, next_line-up_to}
use Rattle.sweep.proofs.LineLaws.{no_number}

below-lt : (bound : ℕ) (d : Draws) → 0 < bound → (below bound d).0 < bound
unfolding below
below-lt bound d h = mod-lt _ h

-- ---- calls

handle-fits : (d : Draws) → (handle d).0 < 2 ^ 32
handle-fits d = let h = below-lt 8 d (lit< tt) in omega (arith, h)

letter-fits : (x : ℕ) → x < 256 → (i : ℕ) → slice_index (x ∷ []) i < 256
letter-fits x h zero = h
letter-fits x h (suc i) = lit< tt

name-fits : (d : Draws) → AreBytes 4096 (name d).0
name-fits d =
    let h = below-lt 4 d (lit< tt) in
    record { few = lit≤ tt; fit = letter-fits ((below 4 d).0 + 97) (omega (arith, h)) }

entry-fits : (d : Draws) → ((entry d).0.0 < 2 ^ 32) × AreBytes 4096 (entry d).0.1
unfolding entry
entry-fits d = (handle-fits d, name-fits (handle d).1)

mode-fits : (mode : ℕ) → mode < 4096 → SetAttrFits (with_mode mode)
mode-fits mode h =
    record {
      mode = inl h;
      uid = lit< tt;
      gid = lit< tt;
      size = lit< tt;
      atime = (lit< tt, lit< tt);
      mtime = (lit< tt, lit< tt);
    }

entry_call-fits : (kind : EntryCall) (place : ℕ × List ℕ)
    → (place.0 < 2 ^ 32) × AreBytes 4096 place.1 → CallFits (call_of_entry kind place.0 place.1)
entry_call-fits of.Create place h = (h.0, h.1, mode-fits 420 (lit< tt))
entry_call-fits of.MkDir place h = (h.0, h.1, mode-fits 493 (lit< tt))
entry_call-fits of.Remove place h = h
entry_call-fits of.Lookup place h = h

four-fit : (i : ℕ) → slice_index (0xaa ∷ 0xbb ∷ 0xcc ∷ 0xdd ∷ []) i < 256
four-fit zero = lit< tt
four-fit (suc zero) = lit< tt
four-fit (suc (suc zero)) = lit< tt
four-fit (suc (suc (suc zero))) = lit< tt
four-fit (suc (suc (suc (suc i)))) = lit< tt

write-fits : (d : Draws) → CallFits (write d).0
unfolding write
write-fits d =
    let h = below-lt 10000 (handle d).1 (lit< tt) in
    (handle-fits d, omega (arith, h), record { few = lit≤ tt; fit = four-fit })

rename-fits : (d : Draws) → CallFits (rename d).0
unfolding rename
rename-fits d =
    let from = entry-fits d in
    let to = entry-fits (entry d).1 in
    (from.0, from.1, to.0, to.1)

call_of_kind-fits : (kind : CallKind) (d : Draws) → CallFits (call_of_kind kind d).0
unfolding call_of_kind
call_of_kind-fits (call_kinds.OfEntry kind) d = entry_call-fits kind (entry d).0 (entry-fits d)
call_of_kind-fits call_kinds.Write d = write-fits d
call_of_kind-fits call_kinds.Rename d = rename-fits d
call_of_kind-fits call_kinds.Read d = (handle-fits d, lit< tt, lit< tt)
call_of_kind-fits call_kinds.ReadDir d = (handle-fits d, lit< tt, lit< tt)

any_call-fits : (d : Draws) → CallFits (any_call d).0
unfolding any_call
any_call-fits d = call_of_kind-fits (call_kind (below 8 d).0) (below 8 d).1

-- ---- lines

one_of : (b : Bool) (x y : Made) → StepFits x.0 → StepFits y.0 → StepFits (if b then x else y).0
one_of true x y left right = left
one_of false x y left right = right

ask_at-fits : (server : ServerId) (n : ℕ) (g : Generator) → n + 1 < 10 ^ 18 → AreUpTo n g
    → StepFits (ask_at server g).0
unfolding ask_at
ask_at-fits server n g room h =
    let client = below 4 g.draws in
    let few = below-lt 4 g.draws (lit< tt) in
    let last = get_or g.numbers client.0 0 in
    let repeats = ((below 8 client.1).0 == 0) && not (last == 0) in
    let number = next_number last n repeats (h client.0) in (
      omega (arith, few),
      omega (arith, number, room),
      (lit< tt, lit< tt),
      any_call-fits (below 8 client.1).1,
    )

boot-fits : (server : ServerId) (g : Generator) → StepFits (boot server g).0
unfolding boot
boot-fits server g = tt

ask-fits : (n : ℕ) (g : Generator) → n + 1 < 10 ^ 18 → AreUpTo n g → StepFits (ask g).0
unfolding ask
ask-fits n g room h =
    one_of g.up.zero _ _ (ask_at-fits Zero n g room h)
    (one_of g.up.one _ _ (ask_at-fits One n g room h) (boot-fits Zero g))

fail-fits : (server : ServerId) (g : Generator) → StepFits (fail server g).0
unfolding fail
fail-fits server g =
    let (chance, draws) = below 4 g.draws in
    let down = with_up false server (with_draws g draws) in
    one_of (chance == 0) (step.Crash server (pick.Bits (true ∷ false ∷ [])), down)
    (step.Power server, down) (lit≤ tt, lit≤ tt) tt

line_at-fits : (kind : ServerLine) (server : ServerId) (g : Generator)
    → StepFits (line_at kind server g).0
unfolding line_at
line_at-fits line.Fail server g = fail-fits server g
line_at-fits line.Suspect server g = tt
line_at-fits line.Apply server g = (lit≤ tt, lit≤ tt)
line_at-fits line.Flush server g = tt
line_at-fits line.Tick server g = tt

pair-fits : (b c : Bool)
    → PairFits (if b then (Zero, One) else if c then (Zero, Two) else (One, Two))
pair-fits true c = lit< tt
pair-fits false true = lit< tt
pair-fits false false = lit< tt

kind-fits : (kind : LineKind) (n : ℕ) (g : Generator) → n + 1 < 10 ^ 18 → AreUpTo n g
    → StepFits (line_of_kind kind g).0
unfolding line_of_kind line_at_any advance pump_two
kind-fits kind.Ask n g room h = ask-fits n g room h
kind-fits (kind.AtAny line) n g room h =
    let (number, draws) = below 3 g.draws in
    let server = server_of number in
    let g = with_draws g draws in
    one_of (value_of g.up server) (line_at line server g) (boot server g)
    (line_at-fits line server g) (boot-fits server g)
kind-fits kind.Advance n g room h =
    let few = below-lt 1500 g.draws (lit< tt) in omega (arith, few)
kind-fits kind.PumpTwo n g room h = pair-fits _ _
kind-fits kind.PumpAll n g room h = tt

next_line-fits : (n : ℕ) (g : Generator) → n + 1 < 10 ^ 18 → AreUpTo n g
    → StepFits (next_line g).0
unfolding next_line
next_line-fits n g room h =
    let (number, draws) = below 16 g.draws in
    kind-fits (line_kind number) n (with_draws g draws) room h

-- ---- schedules

none-fit : All StepFits []
none-fit k d within = let no : ⊥ = omega (arith, within) in absurd no

drawn-fit : (lines n : ℕ) (g : Generator) → n + lines < 10 ^ 18 → AreUpTo n g
    → All StepFits (drawn_lines lines g)
unfolding drawn_lines
drawn-fit zero n g room h = none-fit
drawn-fit (suc lines) n g room h =
    All-cons StepFits (next_line g).0 (drawn_lines lines (next_line g).1)
    (next_line-fits n g (omega (arith, room)) h)
    (drawn-fit lines (n + 1) (next_line g).1 (omega (arith, room)) (next_line-up_to n g h))

opening-fits : All StepFits opening
unfolding opening
opening-fits zero d within = tt
opening-fits (suc zero) d within = tt
opening-fits (suc (suc zero)) d within = lit≤ tt
opening-fits (suc (suc (suc zero))) d within = tt
opening-fits (suc (suc (suc (suc zero)))) d within = tt
opening-fits (suc (suc (suc (suc (suc k))))) d within =
    let no : ⊥ = omega (arith, within) in absurd no

pub generated-fits : (seed lines : ℕ) → lines < 2 ^ 32 → All StepFits (generated seed lines)
unfolding generated
generated-fits seed lines few =
    All-append StepFits opening (drawn_lines lines (generator_of seed)) opening-fits
    (drawn-fit lines 0 (generator_of seed) (omega (arith, few)) (no_number seed))
