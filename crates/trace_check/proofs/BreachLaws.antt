-- A trace that grows by a line.
use Rattle.std.proofs.Common.{◌≡◌, ℕ, List, [], ◌∷◌, ◌++◌, refl, sym, ap, subst, ◌∙◌, append_assoc}
use Rattle.std.specs.Prelude.{◌↔◌}
use Rattle.std.proofs.lemmas.List.{append-nil}
use Rattle.file_tree.specs.Book.{Entry, IsBook, MayFollow}
use Rattle.file_tree.proofs.BookLaws.{book_push}
use Rattle.harp_types.specs.declared.book.BookEntry.{BookEntry}
use Rattle.trace_types.specs.declared.line.Line.{Line}
use Rattle.trace_types.specs.declared.line.Line.TheVariants as line
use Rattle.trace_claims.specs.Acknowledged.{IsAcknowledged}
use Rattle.trace_claims.specs.Faithful.{IsBookReply, IsNumbered, WasAsked}
use Rattle.trace_claims.specs.Reading.{UsesPromise}
use Rattle.trace_claims.specs.Trace.{Trace, entered_by, entries, entry_of, AtEachPlace, AtPlacesAfter}
use Rattle.trace_claims.proofs.Places.{entries-append}
use Rattle.trace_check.specs.declared.breach.Breach.{Breach}
use Rattle.trace_check.specs.declared.breach.Breach.TheVariants as breach
use Rattle.trace_check.specs.Breaches.{HasOutcome, IsAccepted, IsFirst, IsInOrder, Keeps}

-- a fact of each place, of one more line
places_push : (P : Trace → Line → Type 0) (before lines : Trace) (l : Line)
    → AtPlacesAfter P before lines → P (before ++ lines) l
    → AtPlacesAfter P before (lines ++ l ∷ [])
places_push P before [] l h p = (subst (λ b. P b l) (append-nil before) p, tt)
places_push P before (x ∷ lines) l h p = (
  h.0,
  places_push P (before ++ x ∷ []) lines l h.1 (subst (λ b. P b l)
      (sym (append_assoc before (x ∷ []) lines)) p),
)

places_pop : (P : Trace → Line → Type 0) (before lines : Trace) (l : Line)
    → AtPlacesAfter P before (lines ++ l ∷ [])
    → AtPlacesAfter P before lines × P (before ++ lines) l
places_pop P before [] l h = (tt, subst (λ b. P b l) (sym (append-nil before)) h.0)
places_pop P before (x ∷ lines) l h =
    let r = places_pop P (before ++ x ∷ []) lines l h.1 in (
      (h.0, r.0),
      subst (λ b. P b l) (append_assoc before (x ∷ []) lines) r.1,
    )

pub each_push : (P : Trace → Line → Type 0) (before : Trace) (l : Line)
    → AtEachPlace P (before ++ l ∷ []) ↔ (AtEachPlace P before × P before l)
each_push P before l = (
  λ h. places_pop P [] before l h,
  λ h. places_push P [] before l h.0 h.1,
)

-- ---- the book

-- an entered line's entry may follow
abbrev pub Follows : Trace → Line → Type 0
Follows before (line.Entered place entry) = MayFollow (entries before) (entry_of entry)
Follows before l = Unit {0}

book_same : (before : Trace) (l : Line) → entered_by l ≡ []
    → entries (before ++ l ∷ []) ≡ entries before
book_same before l e = entries-append before (l ∷ [])
    ∙ ap (λ (es : List Entry). entries before ++ (es ++ [])) e ∙ append-nil (entries before)

no_entry : (before : Trace) (l : Line) → entered_by l ≡ []
    → IsBook (entries (before ++ l ∷ [])) ↔ (IsBook (entries before) × Unit {0})
no_entry before l e = (
  λ h. (subst IsBook (book_same before l e) h, tt),
  λ h. subst IsBook (sym (book_same before l e)) h.0,
)

pub entries_entered : (before : Trace) (place : ℕ) (entry : BookEntry)
    → entries (before ++ line.Entered place entry ∷ []) ≡ entries before ++ entry_of entry ∷ []
entries_entered before place entry = entries-append before (line.Entered place entry ∷ [])

entry_more : (before : Trace) (place : ℕ) (entry : BookEntry)
    → IsBook (entries (before ++ line.Entered place entry ∷ []))
    ↔ (IsBook (entries before) × MayFollow (entries before) (entry_of entry))
entry_more before place entry = (
  λ h. (book_push (entries before) (entry_of entry)).0
      (subst IsBook (entries_entered before place entry) h),
  λ h. subst IsBook (sym (entries_entered before place entry))
      ((book_push (entries before) (entry_of entry)).1 h),
)

pub book_grown : (before : Trace) (l : Line)
    → IsBook (entries (before ++ l ∷ [])) ↔ (IsBook (entries before) × Follows before l)
book_grown before (line.Entered place entry) = entry_more before place entry
book_grown before l = no_entry before l refl

-- ---- what a line keeps

-- what a line of a faithful trace keeps is what no breach breaks
pub record KeepsAll (before : Trace) (l : Line) : Type 0 where
  pub numbered : IsNumbered before l
  pub follows : Follows before l
  pub answers : IsBookReply before l
  pub asked : WasAsked before l
  pub acknowledged : IsAcknowledged before l
  pub promises : UsesPromise before l

outcome_kept : (before : Trace) (l : Line) → Follows before l → HasOutcome before l
outcome_kept before (line.Entered place entry) f = f.reply
outcome_kept before l f = tt

order_kept : (before : Trace) (l : Line) → IsNumbered before l → Follows before l
    → WasAsked before l → IsInOrder before l
order_kept before (line.Entered place entry) n f a = record {
  numbered = n;
  next = f.order;
  asked = a;
}
order_kept before l n f a = tt

pub kept_from : (before : Trace) (l : Line) → KeepsAll before l → (b : Breach) → Keeps b before l
kept_from before l k breach.Book = outcome_kept before l k.follows
kept_from before l k breach.Order = order_kept before l k.numbered k.follows k.asked
kept_from before l k breach.Answer = k.answers
kept_from before l k breach.Ack = k.acknowledged
kept_from before l k breach.Promise = k.promises

is_numbered : (before : Trace) (l : Line) → IsInOrder before l → IsNumbered before l
is_numbered before (line.Entered place entry) o = o.numbered
is_numbered before l o = tt

was_asked : (before : Trace) (l : Line) → IsInOrder before l → WasAsked before l
was_asked before (line.Entered place entry) o = o.asked
was_asked before l o = tt

follows_from : (before : Trace) (l : Line) → HasOutcome before l → IsInOrder before l
    → Follows before l
follows_from before (line.Entered place entry) h o = record { reply = h; order = o.next }
follows_from before l h o = tt

pub all_from : (before : Trace) (l : Line) → ((b : Breach) → Keeps b before l) → KeepsAll before l
all_from before l k = record {
  numbered = is_numbered before l (k breach.Order);
  follows = follows_from before l (k breach.Book) (k breach.Order);
  answers = k breach.Answer;
  asked = was_asked before l (k breach.Order);
  acknowledged = k breach.Ack;
  promises = k breach.Promise;
}

-- ---- the laws

pub accepts_nothing : IsAccepted []
accepts_nothing = record {
  faithful = record { numbered = tt; book = tt; answers = tt; asked = tt };
  acknowledged = tt;
  promises = tt;
}

pub accepts_less : (before : Trace) (l : Line) → IsAccepted (before ++ l ∷ [])
    → IsAccepted before × ((b : Breach) → Keeps b before l)
accepts_less before l a =
    let numbered = (each_push IsNumbered before l).0 a.faithful.numbered in
    let book = (book_grown before l).0 a.faithful.book in
    let answers = (each_push IsBookReply before l).0 a.faithful.answers in
    let asked = (each_push WasAsked before l).0 a.faithful.asked in
    let acknowledged = (each_push IsAcknowledged before l).0 a.acknowledged in
    let promises = (each_push UsesPromise before l).0 a.promises in (
      record {
        faithful = record {
          numbered = numbered.0;
          book = book.0;
          answers = answers.0;
          asked = asked.0;
        };
        acknowledged = acknowledged.0;
        promises = promises.0;
      },
      kept_from before l (record {
        numbered = numbered.1;
        follows = book.1;
        answers = answers.1;
        asked = asked.1;
        acknowledged = acknowledged.1;
        promises = promises.1;
      }),
    )

pub accepts_more : (before : Trace) (l : Line) → IsAccepted before
    → ((b : Breach) → Keeps b before l) → IsAccepted (before ++ l ∷ [])
accepts_more before l a k =
    let all = all_from before l k in record {
      faithful = record {
        numbered = (each_push IsNumbered before l).1 (a.faithful.numbered, all.numbered);
        book = (book_grown before l).1 (a.faithful.book, all.follows);
        answers = (each_push IsBookReply before l).1 (a.faithful.answers, all.answers);
        asked = (each_push WasAsked before l).1 (a.faithful.asked, all.asked);
      };
      acknowledged = (each_push IsAcknowledged before l).1 (a.acknowledged, all.acknowledged);
      promises = (each_push UsesPromise before l).1 (a.promises, all.promises);
    }

pub first_breaks : (before : Trace) (l : Line) (b : Breach) → IsFirst b before l
    → IsAccepted (before ++ l ∷ []) → ⊥
first_breaks before l b first a = first.broken ((accepts_less before l a).1 b)
