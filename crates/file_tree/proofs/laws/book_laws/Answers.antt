use Rattle.file_tree.proofs.BookLaws.{book_push, tree_push, tree_of_updates, updates_push_update, updates_push_read, last_push, stamp_push}
use Rattle.file_tree.proofs.BookOrder.{update_follows, read_follows, book_numbered}
use Rattle.file_tree.proofs.BookPairs.{book_in_order, book_first}
use Rattle.file_tree.proofs.laws.book_laws.Goals as goal

pub returns : goal.returns
returns c = record {
  appended = book_push;
  tree_appended = tree_push;
  tree_of_updates = tree_of_updates;
  update_appended = updates_push_update;
  read_appended = updates_push_read;
  last_appended = last_push;
  stamp_appended = stamp_push;
  update_follows = update_follows;
  read_follows = read_follows;
  begins_with_books = book_first;
  in_order = book_in_order;
  numbered = book_numbered;
}
