-- What a move of the log alone makes of a leader or a partner.
use Rattle.std.proofs.Common.{◌≡◌, ℕ, sym, ap, ◌∙◌, subst}
use Rattle.std.specs.Prelude.{OnErr, OnOk, Result}
use Rattle.std.proofs.lemmas.Result.{on_err_weaker, on_ok_weaker}
use Rattle.cell_cache.specs.Entries.{Entries}
use Rattle.file_tree.specs.Book.{Entry}
use Rattle.group_rules.specs.Moves.{Move, act}
use Rattle.replica.specs.Following.{Following, MovesFollowed, followed, place_followed}
use Rattle.replica.specs.Leading.{Leading, MovesLed, Outer, led, place_led}
use Rattle.volatile_log.specs.Log.{LogValue}

pub moves_led : {A E : Type 0} (result : Result A E) (log made : LogValue) (move : Move Entry)
    (k : Entries) (old new : Leading) → new ≡ record old { log = log; cached = k }
    → OnOk result (log ≡ made) → OnErr result (log ≡ old.log)
    → ((o : Outer) (clock : ℕ) → led (record old { log = made; cached = k }) o
    ≡ act (place_led old o) clock (led old o) move)
    → MovesLed result made move old new
moves_led result log made move k old new is ok err moves =
    subst (λ (x : Leading). MovesLed result made move old x) (sym is) (record {
      log = on_ok_weaker result
          (λ same. ap (λ (g : LogValue). record old { log = g; cached = k }) same) ok;
      still = on_err_weaker result
          (λ same. ap (λ (g : LogValue). record old { log = g; cached = k }) same) err;
      moves = on_ok_weaker result
          (λ same o clock. ap (λ (g : LogValue). led (record old { log = g; cached = k }) o) same
          ∙ moves o clock) ok;
    })

pub moves_followed : {A E : Type 0} (result : Result A E) (log made : LogValue)
    (move : Move Entry) (k : Entries) (old new : Following)
    → new ≡ record old { log = log; cached = k }
    → OnOk result (log ≡ made) → OnErr result (log ≡ old.log)
    → ((o : Outer) (clock : ℕ) → followed (record old { log = made; cached = k }) o
    ≡ act (place_followed old o) clock (followed old o) move)
    → MovesFollowed result made move old new
moves_followed result log made move k old new is ok err moves =
    subst (λ (x : Following). MovesFollowed result made move old x) (sym is) (record {
      log = on_ok_weaker result
          (λ same. ap (λ (g : LogValue). record old { log = g; cached = k }) same) ok;
      still = on_err_weaker result
          (λ same. ap (λ (g : LogValue). record old { log = g; cached = k }) same) err;
      moves = on_ok_weaker result
          (λ same o clock. ap (λ (g : LogValue). followed (record old { log = g; cached = k }) o)
          same ∙ moves o clock) ok;
    })
