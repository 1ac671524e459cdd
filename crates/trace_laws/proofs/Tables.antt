-- Tables by place, lists that agree, and what moves of one server leave.
use Rattle.std.proofs.Common.{◌≡◌, ◌⊎◌, ℕ, zero, suc, ◌≤◌, List, [], ◌∷◌, length, take, Some, refl, ap, ◌∙◌, inl, inr, arith}
use Rattle.file_tree.specs.Book.{Entry}
use Rattle.group_safety.specs.Disks.{Disks, disks_by, disks_moved}
use Rattle.group_rules.specs.Moves.{Accepting, Appending, Applying, Basing, Booting, Choosing, Collecting, Committing, Demoting, Falling, Flushing, Hearing, Heeding, Joining, Move, Noting, Opening, Pulling, Reading, Saving, Saying, Sending, Staging, act, moved, moved_by}
use Rattle.group_rules.specs.Places.{Zero, One, Two, Place, at}
use Rattle.group_rules.specs.State.{Group, Server}
use Rattle.group_safety.specs.Words.{Agree}

pub cases_place : (x q : Place) → (x ≡ q) ⊎ (x ≡ q → ⊥)
cases_place Zero Zero = inl refl
cases_place Zero One = inr (λ e. cc)
cases_place Zero Two = inr (λ e. cc)
cases_place One Zero = inr (λ e. cc)
cases_place One One = inl refl
cases_place One Two = inr (λ e. cc)
cases_place Two Zero = inr (λ e. cc)
cases_place Two One = inr (λ e. cc)
cases_place Two Two = inl refl

pub at_other : {A : Type 0} (f : Place → A) (q : Place) (a : A) (x : Place) → (x ≡ q → ⊥)
    → at f q a x ≡ f x
at_other f Zero a Zero ne = absurd (ne refl)
at_other f Zero a One ne = refl
at_other f Zero a Two ne = refl
at_other f One a Zero ne = refl
at_other f One a One ne = absurd (ne refl)
at_other f One a Two ne = refl
at_other f Two a Zero ne = refl
at_other f Two a One ne = refl
at_other f Two a Two ne = absurd (ne refl)

-- moves of one server leave the others
pub servers_stay : (ms : List (Move Entry)) (g : Group Entry) (q : Place) (s : Server Entry)
    (x : Place) → (x ≡ q → ⊥) → (moved_by g q s ms).server x ≡ g.server x
servers_stay [] g q s x ne = refl
servers_stay (m ∷ ms) g q s x ne = servers_stay ms (moved g q s m) q (act q (g.clock q) s m) x ne
    ∙ at_other g.server q (act q (g.clock q) s m) x ne

one_stays : (disks : Disks) (q : Place) (m : Move Entry) (x : Place) → (x ≡ q → ⊥)
    → disks_moved disks q m x ≡ disks x
one_stays disks q (Applying n) x ne = at_other disks q _ x ne
one_stays disks q (Joining v duty) x ne = refl
one_stays disks q (Collecting reports) x ne = refl
one_stays disks q (Choosing plan from) x ne = refl
one_stays disks q (Pulling plan first) x ne = refl
one_stays disks q (Staging items) x ne = refl
one_stays disks q (Hearing y lb) x ne = refl
one_stays disks q (Accepting plan role l) x ne = refl
one_stays disks q (Opening lb) x ne = refl
one_stays disks q (Heeding items cp base) x ne = refl
one_stays disks q (Appending e) x ne = refl
one_stays disks q (Noting told lb until) x ne = refl
one_stays disks q (Committing n) x ne = refl
one_stays disks q (Basing n) x ne = refl
one_stays disks q Flushing x ne = refl
one_stays disks q (Demoting v) x ne = refl
one_stays disks q Saving x ne = refl
one_stays disks q Falling x ne = refl
one_stays disks q (Booting d) x ne = refl
one_stays disks q (Reading n e) x ne = refl
one_stays disks q (Saying say) x ne = refl
one_stays disks q (Sending to m) x ne = refl

pub disks_stay : (ms : List (Move Entry)) (disks : Disks) (q x : Place) → (x ≡ q → ⊥)
    → disks_by disks q ms x ≡ disks x
disks_stay [] disks q x ne = refl
disks_stay (m ∷ ms) disks q x ne = disks_stay ms (disks_moved disks q m) q x ne
    ∙ one_stays disks q m x ne

-- lists that agree have the same front
pub agree_take : (n : ℕ) (xs ys : List Entry) → n ≤ length xs → n ≤ length ys → Agree n xs ys
    → take n xs ≡ take n ys
agree_take zero xs ys a b h = refl
agree_take (suc n) [] ys a b h = absurd (omega (arith, a))
agree_take (suc n) (x ∷ xs) [] a b h = absurd (omega (arith, b))
agree_take (suc n) (x ∷ xs) (y ∷ ys) a b h =
    let first : Some x ≡ Some y = h 0 (omega arith) in
    let same : x ≡ y = cc in
    let rest = agree_take n xs ys (omega (arith, a)) (omega (arith, b))
    (λ k l. h (suc k) (omega (arith, l))) in
    ap (λ (z : Entry). z ∷ take n xs) same ∙ ap (λ (zs : List Entry). y ∷ zs) rest
