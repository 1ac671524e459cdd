-- A turn of a judge, by what the reader gave.
use Rattle.std.proofs.Common.{◌≡◌, ℕ, ◌≤◌, ◌<◌, List, [], ◌∷◌, ◌^◌, ◌∙◌, Option, Some, None, Result, Ok, Err, length, refl, sym, ap, subst}
use Rattle.std.specs.Prelude.{Vec}
use Rattle.std.specs.Global.{Global}
use Rattle.line_reader.specs.Lines.{lines_of}
use Rattle.line_reader.specs.Reading.{GivesKnown, text_left}
use Rattle.line_reader.specs.declared.reader.Next.TheVariants as next
use Rattle.trace_verdict.specs.declared.judge.Judge.{Judge}
use Rattle.trace_verdict.specs.declared.verdict.Verdict.{Verdict}
use Rattle.trace_verdict.specs.Judging.{AfterToldTurn, AfterTurn, Decides, DecidesBy, Denies, GoesOn, HasTaken, IsOnTheWay}

end_told : (text left : List ℕ) (told : Option (List ℕ)) (j : Judge) (v : Verdict)
    → IsOnTheWay text left j → GivesKnown (Some left) told next.End
    → (IsOnTheWay text [] j → Decides text v) → DecidesBy text told v
end_told text left None j v way gives decide = absurd gives
end_told text left (Some after) j v way gives decide = record {
  decides = decide (subst (λ (l : List ℕ). IsOnTheWay text l j) gives.0 way);
  read = λ yes. ap Some gives.1;
}

pub end_turn : (text left : List ℕ) (old told : Option (List ℕ)) (j : Judge) (v : Verdict)
    → old ≡ Some left → IsOnTheWay text left j → GivesKnown old told next.End
    → (IsOnTheWay text [] j → Decides text v) → DecidesBy text told v
end_turn text left old told j v is way gives decide = end_told text left told j v way
    (subst (λ (o : Option (List ℕ)). GivesKnown o told next.End) is gives) decide

pub denied_by : (text : List ℕ) (told : Option (List ℕ)) (v : Verdict) → Denies text v
    → DecidesBy text told v
denied_by text told v denies =
    record { decides = denies.decides; read = λ yes. absurd (denies.no yes) }

long_first : (left : List ℕ) (told : Option (List ℕ)) → GivesKnown (Some left) told next.TooLong
    → (line : List ℕ) × (lines : List (List ℕ)) × (lines_of left ≡ line ∷ lines)
    × (20000 < length line)
long_first left None gives = absurd gives
long_first left (Some after) gives = gives.1

pub long_turn : (text left : List ℕ) (old told : Option (List ℕ)) (j : Judge) (v : Verdict)
    → old ≡ Some left → GivesKnown old told next.TooLong
    → ((line : List ℕ) (lines : List (List ℕ)) → lines_of left ≡ line ∷ lines
    → 20000 < length line → Denies text v) → DecidesBy text told v
long_turn text left old told j v is gives deny =
    let b = long_first left told
    (subst (λ (o : Option (List ℕ)). GivesKnown o told next.TooLong) is gives) in
    denied_by text told v (deny b.0 b.1 b.2 b.3)

after_told : (text after : List ℕ) (new : Judge) (v : Option Verdict) → AfterTurn text after new v
    → AfterToldTurn text (Some after) new v
after_told text after new None h = record { left = after; told_is = refl; way = h }
after_told text after new (Some v) h = denied_by text (Some after) v h

-- a line that was given, and what is left behind it
pub record LineGiven (left : List ℕ) (told : Option (List ℕ)) (line : List ℕ) : Type 0 where
  pub after : List ℕ
  pub told_is : told ≡ Some after
  pub lines : lines_of left ≡ line ∷ lines_of after

line_given : (left : List ℕ) (told : Option (List ℕ)) (v : Vec ℕ Global)
    → GivesKnown (Some left) told (next.Line v) → LineGiven left told v.items
line_given left None v gives = absurd gives
line_given left (Some after) v gives =
    record { after = after; told_is = refl; lines = gives.0 }

pub line_turn : (text left : List ℕ) (old told : Option (List ℕ)) (v : Vec ℕ Global)
    (new : Judge) (o : Option Verdict) → old ≡ Some left → GivesKnown old told (next.Line v)
    → ((after : List ℕ) → lines_of left ≡ v.items ∷ lines_of after → AfterTurn text after new o)
    → AfterToldTurn text told new o
line_turn text left old told v new o is gives take =
    let g = line_given left told v
    (subst (λ (x : Option (List ℕ)). GivesKnown x told (next.Line v)) is gives) in
    subst (λ (t : Option (List ℕ)). AfterToldTurn text t new o) (sym g.told_is)
    (after_told text g.after new o (take g.after g.lines))

-- ---- the loop

-- a judge is on its way through a text, where that is told, and no fault is forgotten
pub record Keeps (source left : Option (List ℕ)) (j : Judge) (first now : ℕ) : Type 0 where
  pub few : j.lines ≤ 2 ^ 40
  pub way : (text : List ℕ) → source ≡ Some text → GoesOn text left j
  pub count : first ≤ now

pub first_way : (text held : List ℕ) (source : Option (List ℕ)) (j : Judge) → HasTaken j [] []
    → held ≡ [] → source ≡ Some text → GoesOn text (text_left held source) j
first_way text held source j took none e = record {
  left = text;
  told_is = ap (λ (h : List ℕ). text_left h source) none
      ∙ ap (λ (s : Option (List ℕ)). text_left [] s) e;
  way = record { taken = []; before = []; parts = refl; took = took };
}

pub held_none : (held : List ℕ) (source : Option (List ℕ)) → text_left held source ≡ Some []
    → source ≡ Some []
held_none held None e = absurd cc
held_none [] (Some rest) e = e
held_none (b ∷ held) (Some rest) e = absurd cc
