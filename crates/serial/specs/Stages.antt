-- A stage is one of four.
use Rattle.std.specs.Prelude.{◌≡◌, refl, true, false}
use Rattle.lists.specs.TestLaws.{clash}
use Rattle.spec.specs.declared.Stage.{Stage}
use Rattle.spec.specs.declared.Stage.TheVariants.{Free, Open, Locked, Checked}
use Rattle.spec.specs.Steps.{is_free, is_open, is_locked, is_checked}

pub checked_busy : (s : Stage) → is_checked s ≡ true → is_free s ≡ false
unfolding is_free is_checked
checked_busy Free e = clash e refl
checked_busy Open e = refl
checked_busy Locked e = refl
checked_busy Checked e = refl

pub checked_not_open : (s : Stage) → is_checked s ≡ true → is_open s ≡ false
unfolding is_open is_checked
checked_not_open Free e = refl
checked_not_open Open e = clash e refl
checked_not_open Locked e = refl
checked_not_open Checked e = refl

pub open_unchecked : (s : Stage) → is_open s ≡ true → is_checked s ≡ false
unfolding is_open is_checked
open_unchecked Free e = refl
open_unchecked Open e = refl
open_unchecked Locked e = refl
open_unchecked Checked e = clash e refl

pub open_busy : (s : Stage) → is_open s ≡ true → is_free s ≡ false
unfolding is_open is_free
open_busy Free e = clash e refl
open_busy Open e = refl
open_busy Locked e = refl
open_busy Checked e = refl

pub locked_unchecked : (s : Stage) → is_locked s ≡ true → is_checked s ≡ false
unfolding is_locked is_checked
locked_unchecked Free e = refl
locked_unchecked Open e = refl
locked_unchecked Locked e = refl
locked_unchecked Checked e = clash e refl

pub locked_not_open : (s : Stage) → is_locked s ≡ true → is_open s ≡ false
unfolding is_locked is_open
locked_not_open Free e = refl
locked_not_open Open e = clash e refl
locked_not_open Locked e = refl
locked_not_open Checked e = refl

pub locked_busy : (s : Stage) → is_locked s ≡ true → is_free s ≡ false
unfolding is_locked is_free
locked_busy Free e = clash e refl
locked_busy Open e = refl
locked_busy Locked e = refl
locked_busy Checked e = refl

pub open_open : is_open Open ≡ true
unfolding is_open
open_open = refl

pub open_not_checked : is_checked Open ≡ false
unfolding is_checked
open_not_checked = refl

pub free_free : is_free Free ≡ true
unfolding is_free
free_free = refl
