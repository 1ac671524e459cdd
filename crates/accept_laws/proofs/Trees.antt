-- The trees of lists that are within bounds fit, and so do the replies of a book.
use Rattle.std.proofs.Common.{◌≡◌, ℕ, ◌<◌, ◌≤◌, List, [], ◌∷◌, ◌++◌, fold, sym, subst, arith}
use Rattle.harp_types.specs.declared.reply.Reply.{Reply}
use Rattle.file_tree.specs.Book.{Entry, MayFollowAll, tree_after, tree_next}
use Rattle.file_tree.specs.Calls.{outcome}
use Rattle.file_tree.specs.Sound.{IsSound}
use Rattle.file_tree.specs.Tree.{Tree, first_tree}
use Rattle.file_tree.proofs.BookLaws.{tree_push}
use Rattle.file_tree.proofs.SoundLaws.{book_sound, first_sound, outcome_sound}
use Rattle.group_safety.specs.Words.{Each}
use Rattle.accept_laws.specs.Walks.{EntryWithin}
use Rattle.accept_laws.specs.Replies.{AnswersBriefly, ReplyWithin}
use Rattle.accept_laws.specs.Trees.{TreeFits}
use Rattle.accept_laws.proofs.Calls.{calls_fit}

next_fits : (n late : ℕ) (tree : Tree) (e : Entry) → IsSound tree → TreeFits tree
    → EntryWithin n late e → TreeFits (tree_next tree e)
next_fits n late tree e is h f = (calls_fit tree e.cred e.call e.stamp is h f.cred f.call).0

folded_fits : (n late : ℕ) (es : List Entry) (tree : Tree) → IsSound tree → TreeFits tree
    → Each (EntryWithin n late) es → TreeFits (fold tree_next tree es)
folded_fits n late [] tree is h f = h
folded_fits n late (e ∷ es) tree is h f =
    folded_fits n late es (tree_next tree e) (outcome_sound tree e.cred e.call e.stamp is)
    (next_fits n late tree e is h f.0) f.1

first_fits : TreeFits first_tree
first_fits = (
  tt,
  (
    record {
      uid = omega arith;
      gid = omega arith;
      atime = (omega arith, omega arith);
      mtime = (omega arith, omega arith);
      ctime = (omega arith, omega arith);
      body = tt;
    },
    tt,
  ),
)

pub tree_fits : (n late : ℕ) (es : List Entry) → Each (EntryWithin n late) es
    → TreeFits (tree_after es)
tree_fits n late es f = folded_fits n late es first_tree first_sound first_fits f

-- an entry with its reply
pub record EntryFits (n late : ℕ) (e : Entry) : Type 0 where
  pub within : EntryWithin n late e
  pub reply : ReplyWithin e.reply
  pub brief : AnswersBriefly e.call e.reply

replies_fit : (n late : ℕ) (es earlier : List Entry) → TreeFits (tree_after earlier)
    → MayFollowAll earlier es → Each (EntryWithin n late) es → Each (EntryFits n late) es
replies_fit n late [] earlier t b f = tt
replies_fit n late (e ∷ es) earlier t b f = (
  record {
    within = f.0;
    reply = subst ReplyWithin (sym b.0.reply)
        (calls_fit (tree_after earlier) e.cred e.call e.stamp (book_sound earlier) t f.0.cred
        f.0.call).1;
    brief = subst (AnswersBriefly e.call) (sym b.0.reply)
        (calls_fit (tree_after earlier) e.cred e.call e.stamp (book_sound earlier) t f.0.cred
        f.0.call).2;
  },
  replies_fit n late es (earlier ++ e ∷ [])
      (subst TreeFits (sym (tree_push earlier e))
      (next_fits n late (tree_after earlier) e (book_sound earlier) t f.0)) b.1 f.1,
)

-- each entry of a book
pub book_fits : (n late : ℕ) (book : List Entry) → MayFollowAll [] book
    → Each (EntryWithin n late) book → Each (EntryFits n late) book
book_fits n late book b f = replies_fit n late book [] first_fits b f
