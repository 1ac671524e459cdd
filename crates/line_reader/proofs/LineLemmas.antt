-- The first line of a text.
use Rattle.std.proofs.Common.{◌≡◌, ℕ, false, List, [], ◌∷◌, ◌++◌, refl}
use Rattle.std.specs.Prelude.{◌==◌}
use Rattle.line_reader.specs.Lines.{Feedless, lines_of, begun_with}

pub feedless-push : (line : List ℕ) (b : ℕ) → Feedless line → (b == 10) ≡ false → Feedless (line ++ b ∷ [])
feedless-push [] b h other = (other, tt)
feedless-push (c ∷ line) b h other = (h.0, feedless-push line b h.1 other)

-- a line that is ended
pub lines_of-ended : (line rest : List ℕ) → Feedless line → lines_of (line ++ 10 ∷ rest) ≡ line ∷ lines_of rest
unfolding lines_of
lines_of-ended [] rest h = refl
lines_of-ended (b ∷ line) rest h = rw (h.0, lines_of-ended line rest h.1) refl

-- a last line that isn't ended
pub lines_of-last : (b : ℕ) (line : List ℕ) → Feedless (b ∷ line) → lines_of (b ∷ line) ≡ (b ∷ line) ∷ []
unfolding lines_of
lines_of-last b [] h = rw h.0 refl
lines_of-last b (c ∷ line) h = rw (h.0, lines_of-last c line h.1) refl

-- the first line goes on from bytes without a line feed
pub begins : (b : ℕ) (line rest : List ℕ) → Feedless (b ∷ line) → (more : List ℕ) × (lines : List (List ℕ)) × (lines_of ((b ∷ line) ++ rest) ≡ ((b ∷ line) ++ more) ∷ lines)
unfolding lines_of
begins b [] rest h = rw h.0 (after (lines_of rest)) where
  after : (ls : List (List ℕ)) → (more : List ℕ) × (lines : List (List ℕ)) × (begun_with b ls ≡ (b ∷ more) ∷ lines)
  after [] = ([], [], refl)
  after (l ∷ ls) = (l, ls, refl)
begins b (c ∷ line) rest h = let r = begins c line rest h.1 in (r.0, r.1, rw (h.0, r.2) refl)
