-- The moves of which steps are made, by what they change.
use Rattle.std.proofs.Common.{◌≡◌, ℕ, ◌-◌, ◌<◌, ◌≤◌, Bool, true, false, List, [], ◌∷◌, ◌++◌, append_assoc, length, sym, subst, if◌then◌else◌}
use Rattle.std.specs.Prelude.{⊤}
use Rattle.std.specs.List.{AllByRecursion}
use Rattle.harp_types.specs.declared.call.Call.{Call}
use Rattle.harp_types.specs.declared.cred.Cred.{Cred}
use Rattle.harp_types.specs.Update.{is_update}
use Rattle.file_tree.specs.Book.{Entry}
use Rattle.group_rules.specs.Effects.{NewLog}
use Rattle.group_rules.specs.Form.{role_of}
use Rattle.group_rules.specs.Moves.{Accepting, Appending, Basing, Choosing, Collecting, Committing, Heeding, Move, Noting, Opening, Reading, Saying, Sending}
use Rattle.group_rules.specs.Places.{Place}
use Rattle.group_rules.specs.Replicate.{answers}
use Rattle.group_rules.specs.State.{Ack, Answers, Open, Plan, Server}
use Rattle.group_rules.specs.Step.{Ask, Comes, Does, Input}
use Rattle.group_rules.proofs.Tests.{by_if}

-- moves at the end of a step, which keep the server's view and what it holds
abbrev pub IsTail : Move Entry → Type 0
IsTail (Sending to m) = ⊤
IsTail (Basing n) = ⊤
IsTail (Opening lb) = ⊤
IsTail m = ⊥

-- of these, those that keep the log
abbrev pub IsEnd : Move Entry → Type 0
IsEnd (Sending to m) = ⊤
IsEnd (Opening lb) = ⊤
IsEnd m = ⊥

-- moves that answer, append and commit nothing, and take no part in a view
abbrev pub IsMild : Move Entry → Type 0
IsMild (Accepting plan role n) = ⊥
IsMild (Heeding items cp base) = ⊥
IsMild (Appending e) = ⊥
IsMild (Noting t lb until) = ⊥
IsMild (Committing n) = ⊥
IsMild (Reading n e) = ⊥
IsMild (Saying (Answers n e)) = ⊥
IsMild m = ⊤

-- moves of a coordinator before it takes its own part
abbrev pub IsFront : Move Entry → Type 0
IsFront (Collecting reports) = ⊤
IsFront (Choosing plan from) = ⊤
IsFront (Sending to m) = ⊤
IsFront m = ⊥

abbrev pub AreFront : List (Move Entry) → Type 0
AreFront ms = AllByRecursion IsFront ms

abbrev pub AreTail : List (Move Entry) → Type 0
AreTail ms = AllByRecursion IsTail ms

abbrev pub AreEnd : List (Move Entry) → Type 0
AreEnd ms = AllByRecursion IsEnd ms

abbrev pub AreMild : List (Move Entry) → Type 0
AreMild ms = AllByRecursion IsMild ms

-- a step that answers nothing: mild moves, and then possibly one by which a storer accepts or
-- heeds
pub data Plain (q : Place) : List (Move Entry) → Type 0 where
  mild : (ms : List (Move Entry)) → AreMild ms → Plain q ms
  accepts : (plan : Plan) (n : NewLog Entry) (before after : List (Move Entry)) → AreFront before
      → AreTail after
      → Plain q (before ++ Accepting plan (role_of plan.storers q) n ∷ after)
  heeds : (items : List Entry) (cp base : ℕ) (after : List (Move Entry)) → AreTail after
      → Plain q (Heeding items cp base ∷ after)

-- the ask that an entry comes from
abbrev pub IsAsked : Input → Entry → Type 0
IsAsked i e = i ≡ Does (Ask e.client e.number e.cred e.call)

pub data Kind (q : Place) (clock : ℕ) (s : Server Entry) (i : Input) : List (Move Entry)
    → Type 0 where
  plain : (ms : List (Move Entry)) → Plain q ms → Kind q clock s i ms
  appends : (e : Entry) (after : List (Move Entry)) → s.mode ≡ Open → IsAsked i e
      → is_update e.call ≡ true → AreTail after
      → Kind q clock s i (Appending e ∷ after)
  reads : (e : Entry) (after : List (Move Entry)) → s.mode ≡ Open → IsAsked i e → is_update e.call
      ≡ false → clock < s.grant → AreTail after
      → Kind q clock s i (Reading s.cp e ∷ after)
  repeats : (index : ℕ) (e : Entry) (client number : ℕ) (cred : Cred) (call : Call)
      (after : List (Move Entry)) → s.mode ≡ Open
      → i ≡ Does (Ask client number cred call) → is_update call ≡ true → index ≤ s.cp
      → AreTail after
      → Kind q clock s i (Saying (Answers index e) ∷ after)
  notes : (from : Place) (t lb until : ℕ) (after : List (Move Entry)) → s.mode ≡ Open
      → i ≡ Comes from (Ack s.accepted t lb until) → AreTail after
      → Kind q clock s i (Noting t lb until ∷ after)
  commits : (from : Place) (t lb until : ℕ) (es : List Entry) (after : List (Move Entry))
      → s.mode ≡ Open → i ≡ Comes from (Ack s.accepted t lb until)
      → s.cp < t → length es ≤ t - s.cp → AreTail after
      → Kind q clock s i (Noting t lb until ∷ Committing t ∷ (answers s.cp es ++ after))

pub each-append : {A : Type 0} (P : A → Type 0) (xs ys : List A) → AllByRecursion P xs
    → AllByRecursion P ys → AllByRecursion P (xs ++ ys)
each-append P [] ys p q = q
each-append P (x ∷ xs) ys p q = (p.0, each-append P xs ys p.1 q)

pub tail_if : (b : Bool) (x y : List (Move Entry)) → AreTail x → AreTail y
    → AreTail (if b then x else y)
tail_if b x y h k = by_if AreTail b x y (λ _. h) (λ _. k)

pub end_if : (b : Bool) (x y : List (Move Entry)) → AreEnd x → AreEnd y
    → AreEnd (if b then x else y)
end_if b x y h k = by_if AreEnd b x y (λ _. h) (λ _. k)

pub end_both : (a b : List (Move Entry)) → AreEnd a → AreEnd b → AreEnd (a ++ b)
end_both a b = each-append IsEnd a b

pub ends_tail : (ms : List (Move Entry)) → AreEnd ms → AreTail ms
ends_tail [] h = tt
ends_tail (m ∷ ms) h = (one m h.0, ends_tail ms h.1)
  where
    one : (m : Move Entry) → IsEnd m → IsTail m
    one (Sending to x) h = tt
    one (Opening lb) h = tt
    one m h = absurd h

pub tail_both : (a b : List (Move Entry)) → AreTail a → AreTail b → AreTail (a ++ b)
tail_both a b = each-append IsTail a b

pub mild_if : (b : Bool) (x y : List (Move Entry)) → AreMild x → AreMild y
    → AreMild (if b then x else y)
mild_if b x y h k = by_if AreMild b x y (λ _. h) (λ _. k)

mild_both : (a b : List (Move Entry)) → AreMild a → AreMild b → AreMild (a ++ b)
mild_both a b = each-append IsMild a b

tail_mild : (m : Move Entry) → IsTail m → IsMild m
tail_mild (Sending to m) h = tt
tail_mild (Basing n) h = tt
tail_mild (Opening lb) h = tt
tail_mild m h = absurd h

pub tails_mild : (ms : List (Move Entry)) → AreTail ms → AreMild ms
tails_mild [] h = tt
tails_mild (m ∷ ms) h = (tail_mild m h.0, tails_mild ms h.1)

front_mild : (m : Move Entry) → IsFront m → IsMild m
front_mild (Collecting reports) h = tt
front_mild (Choosing plan from) h = tt
front_mild (Sending to m) h = tt
front_mild m h = absurd h

pub fronts_mild : (ms : List (Move Entry)) → AreFront ms → AreMild ms
fronts_mild [] h = tt
fronts_mild (m ∷ ms) h = (front_mild m h.0, fronts_mild ms h.1)

plain_if : (q : Place) (b : Bool) (x y : List (Move Entry)) → Plain q x → Plain q y
    → Plain q (if b then x else y)
plain_if q b x y h k = by_if (Plain q) b x y (λ _. h) (λ _. k)

-- a plain step, and its end
plain_then : (q : Place) (ms after : List (Move Entry)) → Plain q ms → AreTail after
    → Plain q (ms ++ after)
plain_then q _ after (mild ms h) t = mild (ms ++ after) (mild_both ms after h (tails_mild after t))
plain_then q _ after (accepts plan n before rest h t') t =
    subst (Plain q) (sym (append_assoc before (Accepting plan (role_of plan.storers q) n
    ∷ rest) after))
    (accepts plan n before (rest ++ after) h (tail_both rest after t' t))
plain_then q _ after (heeds items cp base rest t') t = heeds items cp base (rest ++ after)
    (tail_both rest after t' t)

-- steps of a storer's part: mild moves, and then it accepts
pub data Parts (q : Place) : List (Move Entry) → Type 0 where
  quiet_part : (ms : List (Move Entry)) → AreMild ms → Parts q ms
  accepting_part : (plan : Plan) (n : NewLog Entry) (before after : List (Move Entry))
      → AreFront before → AreTail after
      → Parts q (before ++ Accepting plan (role_of plan.storers q) n ∷ after)

pub part_plain : (q : Place) (ms : List (Move Entry)) → Parts q ms → Plain q ms
part_plain q _ (quiet_part ms h) = mild ms h
part_plain q _ (accepting_part plan n before after h t) = accepts plan n before after h t

pub part_if : (q : Place) (b : Bool) (x y : List (Move Entry)) → Parts q x → Parts q y
    → Parts q (if b then x else y)
part_if q b x y h k = by_if (Parts q) b x y (λ _. h) (λ _. k)

-- mild moves, and then a storer's part
pub part_behind : (q : Place) (front ms : List (Move Entry)) → AreFront front → Parts q ms
    → Parts q (front ++ ms)
part_behind q front _ f (quiet_part ms h) =
    quiet_part (front ++ ms) (mild_both front ms (fronts_mild front f) h)
part_behind q front _ f (accepting_part plan n before rest h t) =
    subst (Parts q) (append_assoc front before (Accepting plan (role_of plan.storers q) n ∷ rest))
    (accepting_part plan n (front ++ before) rest (each-append IsFront front before f h) t)

-- a step of a kind, and its end
pub kind_then : (q : Place) (clock : ℕ) (s : Server Entry) (i : Input)
    (ms after : List (Move Entry))
    → Kind q clock s i ms → AreTail after → Kind q clock s i (ms ++ after)
kind_then q clock s i _ after (plain ms h) t = plain (ms ++ after) (plain_then q ms after h t)
kind_then q clock s i _ after (appends e rest o a u t') t =
    appends e (rest ++ after) o a u (tail_both rest after t' t)
kind_then q clock s i _ after (reads e rest o a u l t') t =
    reads e (rest ++ after) o a u l (tail_both rest after t' t)
kind_then q clock s i _ after (repeats index e client number cred call rest o a u l t') t =
    repeats index e client number cred call (rest ++ after) o a u l (tail_both rest after t' t)
kind_then q clock s i _ after (notes from t lb until rest o a t') k = notes from t lb until (rest
    ++ after) o a (tail_both rest after t' k)
kind_then q clock s i _ after (commits from t lb until es rest o a l f t') k =
    subst (λ ms. Kind q clock s i (Noting t lb until ∷ Committing t ∷ ms))
    (sym (append_assoc (answers s.cp es) rest after))
    (commits from t lb until es (rest ++ after) o a l f (tail_both rest after t' k))

pub kind_if : (q : Place) (clock : ℕ) (s : Server Entry) (i : Input) (b : Bool)
    (x y : List (Move Entry)) → (b ≡ true → Kind q clock s i x) → (b ≡ false → Kind q clock s i y)
    → Kind q clock s i (if b then x else y)
kind_if q clock s i b x y = by_if (Kind q clock s i) b x y
