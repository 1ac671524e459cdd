-- Answers that are kept for records.
use Rattle.std.proofs.Common.{◌≡◌, ℕ, true, false, cond, List, [], ◌∷◌, is_some, Option, Some, None, ap, refl, sym, ◌∙◌}
use Rattle.std.specs.Cmp.Lexicographic.{bytes_decides}
use Rattle.std.specs.Map.{lookup_entry, remove_entry}
use Rattle.lru.specs.LruCache.{LruCache, put_entries}
use Rattle.lru.proofs.CallerLemmas.{Contains-lookup_entry}
use Rattle.door_seats.specs.Kept.{Kept, answer_of, is_bytes, with_answer}

found : (k : List ℕ) (es : Kept)
    → is_some (lookup_entry (is_bytes k) es) ≡ is_some (answer_of k es)
found k [] = refl
found k (e ∷ es) =
    elim (is_bytes k e.0) as (λ b. is_some (cond b (Some e) (lookup_entry (is_bytes k) es))
    ≡ is_some (cond b (Some e.1) (answer_of k es))) [
      | true ↦ refl
      | false ↦ found k es
    ]

module _ (c : LruCache (List ℕ) (List ℕ)) (k v : List ℕ) (cap : c.cap ≡ 1024) where
  by_found : (o : Option (List ℕ × List ℕ)) → lookup_entry (is_bytes k) c.entries ≡ o
      → put_entries is_bytes c k v ≡ with_answer k v c.entries
  by_found None e =
      let none : is_some (answer_of k c.entries) ≡ false = sym (found k c.entries) ∙ ap is_some e in
      rw (e, none, cap) refl
  by_found (Some f) e =
      let some : is_some (answer_of k c.entries) ≡ true = sym (found k c.entries) ∙ ap is_some e in
      let bytes : k ≡ f.0 = (bytes_decides k f.0).0
      (Contains-lookup_entry (is_bytes k) c.entries f e).1 in
      rw (e, some) (ap (λ (xs : List ℕ). (xs, v) ∷ remove_entry (is_bytes k) c.entries) (sym bytes))

  -- what a cache keeps behind a put is what is kept
  pub put : put_entries is_bytes c k v ≡ with_answer k v c.entries
  put = by_found (lookup_entry (is_bytes k) c.entries) refl
