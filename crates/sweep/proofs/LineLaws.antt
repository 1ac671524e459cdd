-- The lines of a schedule, made one after another.
use Rattle.std.proofs.Common.{◌≡◌, ℕ, zero, suc, ◌+◌, ◌-◌, ◌<◌, ◌≤◌, ◌^◌, List, [], ◌∷◌, ◌++◌, drop, slice_index, sym, ap, subst, ◌∙◌, lit<, arith}
use Rattle.trace_types.specs.declared.step.Step.{Step}
use Rattle.sweep.specs.declared.generator.Generator.{Generator}
use Rattle.sweep.specs.Lines.{AreUpTo, Made, next_line, drawn_lines, generator_of, opening}
use Rattle.sweep.proofs.NumberLaws.{next_line-up_to}

pub no_number : (seed : ℕ) → AreUpTo 0 (generator_of seed)
no_number seed zero = omega arith
no_number seed (suc zero) = omega arith
no_number seed (suc (suc zero)) = omega arith
no_number seed (suc (suc (suc zero))) = omega arith
no_number seed (suc (suc (suc (suc client)))) = omega arith

-- a bound may be raised
up_to-raised : (n most : ℕ) (g : Generator) → n ≤ most → AreUpTo n g → AreUpTo most g
up_to-raised n most g within h client =
    let at : slice_index g.numbers client ≤ n = h client in omega (arith, at, within)

-- the opening has five steps
pub opening-within : (opened : ℕ) (step : Step) (left : List Step)
    → drop opened opening ≡ step ∷ left → opened < 5
unfolding opening
opening-within zero step left is = lit< tt
opening-within (suc zero) step left is = lit< tt
opening-within (suc (suc zero)) step left is = lit< tt
opening-within (suc (suc (suc zero))) step left is = lit< tt
opening-within (suc (suc (suc (suc zero)))) step left is = lit< tt
opening-within (suc (suc (suc (suc (suc zero))))) step left is = absurd cc
opening-within (suc (suc (suc (suc (suc (suc opened)))))) step left is = absurd cc

-- where no step of the opening and no line is left, nothing is
pub none-left : (opened lines : ℕ) (g : Generator) → drop opened opening ≡ [] → lines ≡ 0
    → drop opened opening ++ drawn_lines lines g ≡ []
unfolding drawn_lines
none-left opened lines g none done =
    ap (λ ss. ss ++ drawn_lines lines g) none ∙ ap (λ n. drawn_lines n g) done

-- the next of the lines that are left, where no step of the opening is
pub line-next : (opened lines : ℕ) (step : Step) (g next : Generator)
    → drop opened opening ≡ [] → 0 < lines → next_line g ≡ (step, next)
    → drop opened opening ++ drawn_lines lines g
    ≡ step ∷ (drop opened opening ++ drawn_lines (lines - 1) next)
unfolding drawn_lines
line-next opened lines step g next none some made =
    let less = lines - 1 in
    let count : lines ≡ suc less = omega (arith, some) in
    ap (λ ss. ss ++ drawn_lines lines g) none ∙ ap (λ n. drawn_lines n g) count
    ∙ ap (λ m. m.0 ∷ drawn_lines less m.1) made
    ∙ ap (λ ss. step ∷ (ss ++ drawn_lines less next)) (sym none)

-- with it a client's number may rise by one
pub numbers-next : (lines : ℕ) (step : Step) (g next : Generator) → 0 < lines → lines < 2 ^ 32
    → next_line g ≡ (step, next) → AreUpTo (2 ^ 32 - lines) g
    → AreUpTo (2 ^ 32 - (lines - 1)) next
numbers-next lines step g next some few made h =
    subst (λ (m : Made). AreUpTo (2 ^ 32 - (lines - 1)) m.1) made
    (up_to-raised (2 ^ 32 - lines + 1) (2 ^ 32 - (lines - 1)) (next_line g).1
    (omega (arith, some, few)) (next_line-up_to (2 ^ 32 - lines) g h))
