-- With each line a client's number rises by at most one.
use Rattle.std.proofs.Common.{ℕ, zero, suc, ◌+◌, ◌≤◌, Bool, true, false, List, [], ◌∷◌, get_or, slice_set, if◌then◌else◌, arith}
use Rattle.sweep.specs.declared.generator.Generator.{Generator}
use Rattle.sweep.specs.declared.line_kind.LineKind.{LineKind}
use Rattle.sweep.specs.declared.line_kind.LineKind.TheVariants as kind
use Rattle.sweep.specs.declared.line_kind.ServerLine.{ServerLine}
use Rattle.sweep.specs.declared.line_kind.ServerLine.TheVariants as line
use Rattle.harp_types.specs.declared.server.ServerId.{ServerId}
use Rattle.harp_types.specs.declared.server.ServerId.TheVariants.{Zero, One}
use Rattle.harp_types.specs.Trio.{value_of}
use Rattle.sweep.specs.Draws.{below}
use Rattle.sweep.specs.Lines.{Made, AreUpTo, ask_at, ask, boot, fail, advance, pump_two, server_of, line_at, line_at_any, line_kind, line_of_kind, next_line, with_draws}

set-le : (xs : List ℕ) (i x most : ℕ) → ((k : ℕ) → get_or xs k 0 ≤ most) → x ≤ most
    → (k : ℕ) → get_or (slice_set xs i x) k 0 ≤ most
set-le [] i x most all one k = all k
set-le (y ∷ ys) zero x most all one zero = one
set-le (y ∷ ys) zero x most all one (suc k) = all (suc k)
set-le (y ∷ ys) (suc i) x most all one zero = all zero
set-le (y ∷ ys) (suc i) x most all one (suc k) = set-le ys i x most (λ k. all (suc k)) one k

one_of : (b : Bool) (x y : Made) (n : ℕ) → AreUpTo n x.1 → AreUpTo n y.1
    → AreUpTo n (if b then x else y).1
one_of true x y n left right = left
one_of false x y n left right = right

pub next_number : (last most : ℕ) (b : Bool) → last ≤ most
    → (if b then last else last + 1) ≤ most + 1
next_number last most true h = omega arith
next_number last most false h = omega arith

more : (n : ℕ) (g : Generator) → AreUpTo n g → AreUpTo (n + 1) g
more n g h client = let at : get_or g.numbers client 0 ≤ n = h client in omega arith

ask_at-up_to : (server : ServerId) (n : ℕ) (g : Generator) → AreUpTo n g
    → AreUpTo (n + 1) (ask_at server g).1
unfolding ask_at
ask_at-up_to server n g h =
    let client = (below 4 g.draws).0 in
    set-le g.numbers client _ (n + 1) (more n g h)
    (next_number (get_or g.numbers client 0) n _ (h client))

ask-up_to : (n : ℕ) (g : Generator) → AreUpTo n g → AreUpTo (n + 1) (ask g).1
unfolding ask boot
ask-up_to n g h =
    one_of g.up.zero _ _ (n + 1) (ask_at-up_to Zero n g h)
    (one_of g.up.one _ _ (n + 1) (ask_at-up_to One n g h) (more n g h))

line_at-up_to : (kind : ServerLine) (server : ServerId) (n : ℕ) (g : Generator) → AreUpTo n g
    → AreUpTo (n + 1) (line_at kind server g).1
unfolding line_at fail
line_at-up_to line.Fail server n g h = one_of _ _ _ (n + 1) (more n g h) (more n g h)
line_at-up_to line.Suspect server n g h = more n g h
line_at-up_to line.Apply server n g h = more n g h
line_at-up_to line.Flush server n g h = more n g h
line_at-up_to line.Tick server n g h = more n g h

kind-up_to : (kind : LineKind) (n : ℕ) (g : Generator) → AreUpTo n g
    → AreUpTo (n + 1) (line_of_kind kind g).1
unfolding line_of_kind line_at_any boot advance pump_two
kind-up_to kind.Ask n g h = ask-up_to n g h
kind-up_to (kind.AtAny line) n g h =
    let (number, draws) = below 3 g.draws in
    one_of (value_of g.up (server_of number)) _ _ (n + 1)
    (line_at-up_to line (server_of number) n (with_draws g draws) h) (more n g h)
kind-up_to kind.Advance n g h = more n g h
kind-up_to kind.PumpTwo n g h = more n g h
kind-up_to kind.PumpAll n g h = more n g h

pub next_line-up_to : (n : ℕ) (g : Generator) → AreUpTo n g → AreUpTo (n + 1) (next_line g).1
unfolding next_line
next_line-up_to n g h =
    let (number, draws) = below 16 g.draws in
    kind-up_to (line_kind number) n (with_draws g draws) h
