use Rattle.file_tree.proofs.Rows.{rows}
use Rattle.file_tree.proofs.laws.worked_rows.Goals as goal

pub returns : goal.returns
returns c = record {
  ends_of_a_file = rows.0;
  rename = rows.1;
  directory_pages = rows.2;
  names_and_handles = rows.3;
  session_over_a_fail_over = rows.4;
  permissions = rows.5;
  order_of_permissions = rows.6;
}
