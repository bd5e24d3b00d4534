-- Wrong boxes that the promises rule out, by computation. Each does all as the product does, up to its last entry (`start_before_normal` up to the
-- last four): `lives` plays the product's part in what is seen, and `lives_ran` says so. Then comes the entry that is wrong, and a proof that the
-- named promise is false of it. One network is that of the bench sheet: handle 7, controller 3, delays 2 and 5, ensure time 3. The other differs from
-- it by a controller 4, a transceiver 5 and partial networking. Histories have the latest first.
use Rattle.std.specs.Prelude.{ℕ, ◌≤◌, List, [], ◌∷◌, true, get_or, Some}
use native.Mathlib.Omega.{arith}
use Rattle.std.proofs.Math.Path.{◌≡◌, refl, ap}
use Rattle.std.proofs.Math.Bool.{true≢false, false≢true}
use Rattle.std.proofs.Math.ListN.{length}
use Rattle.records.specs.declared.Record.{Record}
use Rattle.records.specs.Records.{handed as row}
use Rattle.settings.specs.declared.Relation.{Relation}
use Rattle.settings.specs.declared.Network.{Network}
use Rattle.network.specs.declared.Report.{Report}
use Rattle.network.specs.declared.State.{State}
use Rattle.network.specs.Replies.{reply_number}
use Rattle.network.specs.Parts.{Sight, a_tick, a_bus_off, a_stall, an_answer, a_request, a_report}
use Rattle.calls.specs.Computed.{computed_outcome}
use Rattle.network_demands.specs.Words.{Seen, OwnHistory, called_up, awaited, after_stall}
use Rattle.network_demands.specs.Own.{played, handed, state_of, Ran}
use Rattle.network_demands.specs.Promises.{said_ok, BusOffs, Stalls, Answers, Requests, Ticks}
use Rattle.demands.specs.WrongBoxes.{network_with, network, taken, refused_with, refused, ticks, computed_words}

-- ---- the product's part

-- what the product makes of a call that is seen so
abbrev rightly : Network → State → Sight → Seen
rightly n s sight = record { sight = sight; number = reply_number (played n s sight).reply; records = handed n s sight }

-- its history, by what is seen
unfoldable pub lives : Network → List Sight → OwnHistory
lives n [] = []
lives n (sight ∷ earlier) = rightly n (state_of n (lives n earlier)) sight ∷ lives n earlier

-- it is one of the network's own rules
pub lives_ran : (n : Network) (l : List Sight) → Ran n (lives n l)
unfolding Ran lives
lives_ran n [] = tt
lives_ran n (sight ∷ earlier) = (record { number = λ c. refl; records = refl }, lives_ran n earlier)

-- with all open that it takes to compute one, and what the promises say of it
unfoldable pub computed_life : Network → List Sight → OwnHistory
unfolding computed_outcome computed_words played handed state_of lives called_up awaited after_stall said_ok
computed_life n l = lives n l

-- ---- the wrong entry

-- the kind of the record at a place
abbrev kind_at : ℕ → List Record → ℕ
kind_at i l = (get_or l i (row 0 0 0)).kind

-- ---- where the bench network is, by what it saw since the start

-- controller 3 answers ok to the request for a mode
abbrev pub ok : ℕ → Sight
ok mode = an_answer 3 mode 1

-- at rest: stopped, asleep, and told no
abbrev pub rest : List Sight
rest = a_tick ∷ ok 2 ∷ a_tick ∷ ok 0 ∷ a_tick ∷ []

-- coming up: full is wanted, and the controller is asked to stop
abbrev stopping : List Sight
stopping = a_tick ∷ a_request 2 ∷ rest

-- it is stopped, and asked to start
abbrev starting : List Sight
starting = a_tick ∷ ok 0 ∷ stopping

-- it runs, and full is told
abbrev pub full : List Sight
full = a_tick ∷ ok 1 ∷ starting

-- a bus-off while up; then it is asked to start
abbrev restarting : List Sight
restarting = a_tick ∷ a_bus_off ∷ full

-- a stall while full is told; then it is asked to stop
abbrev resetting : List Sight
resetting = a_tick ∷ a_stall ∷ full

-- no is wanted, and it goes down
abbrev falling : List Sight
falling = a_tick ∷ a_request 0 ∷ full

-- ---- the other network

-- two controllers and a transceiver, with partial networking
abbrev pub fitted : Network
fitted = network_with 2 (3 ∷ 4 ∷ 0 ∷ 0 ∷ []) (Some 5) true 1 Relation.Above

-- both controllers answer ok to the request for a mode
abbrev pub both : ℕ → List Sight → List Sight
both mode earlier = an_answer 4 mode 1 ∷ ok mode ∷ earlier

-- the wake flag is cleared, and the controllers are asked to stop
abbrev pub clearing : List Sight
clearing = a_tick ∷ a_report Report.Cleared ∷ a_tick ∷ []

-- stopped, standby, asleep, and the wake flag is to be checked
abbrev pub checking : List Sight
checking = a_tick ∷ both 2 (a_tick ∷ a_report (Report.Transceiver 1) ∷ a_tick ∷ both 0 clearing)

-- at rest, and full is wanted
abbrev resting : List Sight
resting = a_request 2 ∷ a_tick ∷ a_report Report.Checked ∷ checking

-- the transceiver is normal, the controllers are stopped and run
abbrev pub running : List Sight
running = both 1 (a_tick ∷ both 0 (a_tick ∷ a_report (Report.Transceiver 0) ∷ a_tick ∷ resting))

-- ---- bus-offs
module _ where
  -- `records`: a bus-off while up hands out no 7 bus-off
  pub no_bus_off_notice : BusOffs network (taken a_bus_off (row 8 7 1 ∷ row 6 7 1 ∷ [])) (lives network full) → ⊥
  unfolding computed_life
  no_bus_off_notice b = let z : ◌≡◌ {A = ℕ} 2 3 = ap length (b.records refl) in omega arith

  -- `records`: it hands them out in another order
  pub bus_off_notice_first : BusOffs network (taken a_bus_off (row 7 7 3 ∷ row 8 7 1 ∷ row 6 7 1 ∷ [])) (lives network full) → ⊥
  unfolding computed_life
  bus_off_notice_first b = let z : ◌≡◌ {A = ℕ} 7 8 = ap (kind_at 0) (b.records refl) in omega arith

  -- `records`: a bus-off before the network is up hands them out
  pub notices_before_up : BusOffs network (taken a_bus_off (row 8 7 1 ∷ row 6 7 1 ∷ row 7 7 3 ∷ [])) (lives network starting) → ⊥
  unfolding computed_life
  notices_before_up b = let z : ◌≡◌ {A = ℕ} 3 0 = ap length (b.records refl) in omega arith

  -- `accepted`: a bus-off is taken only while up, and refused where the controller was asked to start
  pub bus_off_refused_before_up : BusOffs network (refused a_bus_off) (lives network starting) → ⊥
  unfolding computed_life
  bus_off_refused_before_up b = false≢true (b.accepted refl 3 refl)

  -- `accepted`: a bus-off is taken while the network goes down
  pub bus_off_taken_going_down : BusOffs network (taken a_bus_off []) (lives network falling) → ⊥
  unfolding computed_life
  bus_off_taken_going_down b = true≢false (b.accepted refl 3 refl)

  -- `records`: a second bus-off, while the network restarts, hands out nothing
  pub second_report_hidden : BusOffs network (taken a_bus_off []) (lives network restarting) → ⊥
  unfolding computed_life
  second_report_hidden b = let z : ◌≡◌ {A = ℕ} 0 3 = ap length (b.records refl) in omega arith

  -- `records`: a bus-off after a stall hands out nothing
  pub bus_off_hidden_by_a_stall : BusOffs network (taken a_bus_off []) (lives network resetting) → ⊥
  unfolding computed_life
  bus_off_hidden_by_a_stall b = let z : ◌≡◌ {A = ℕ} 0 3 = ap length (b.records refl) in omega arith

-- ---- stalls
module _ where
  -- `accepted`: a stall is taken where the network is silent
  pub stall_taken_in_silent : Stalls network (taken a_stall (row 6 7 1 ∷ [])) (lives network (a_tick ∷ a_request 1 ∷ full)) → ⊥
  unfolding computed_life
  stall_taken_in_silent s = true≢false (s.accepted refl)

  -- `accepted`: a stall is taken during a recovery, and begins a reset
  pub stall_taken_in_a_recovery : Stalls network (taken a_stall (row 6 7 1 ∷ [])) (lives network restarting) → ⊥
  unfolding computed_life
  stall_taken_in_a_recovery s = true≢false (s.accepted refl)

  -- `accepted`: a second stall begins the reset anew
  pub stall_taken_twice : Stalls network (taken a_stall (row 6 7 1 ∷ [])) (lives network resetting) → ⊥
  unfolding computed_life
  stall_taken_twice s = true≢false (s.accepted refl)

  -- `accepted`: every stall is refused, also while full is told
  pub stall_refused : Stalls network (refused a_stall) (lives network full) → ⊥
  unfolding computed_life
  stall_refused s = false≢true (s.accepted refl)

  -- `records`: a stall tells the mode manager too
  pub stall_noted : Stalls network (taken a_stall (row 6 7 1 ∷ row 7 7 1 ∷ [])) (lives network full) → ⊥
  unfolding computed_life
  stall_noted s = let z : ◌≡◌ {A = ℕ} 2 1 = ap length (s.records refl) in omega arith

  -- `records`: a stall is taken, and nobody hears of it
  pub stall_untold : Stalls network (taken a_stall []) (lives network full) → ⊥
  unfolding computed_life
  stall_untold s = let z : ◌≡◌ {A = ℕ} 0 1 = ap length (s.records refl) in omega arith

-- ---- answers
module _ where
  -- `controllers`: an answer to the request to stop from before the stall is taken
  pub answer_kept_over_a_stall : Answers network (taken (ok 0) []) (lives network (a_stall ∷ full)) → ⊥
  unfolding computed_life
  answer_kept_over_a_stall a = true≢false (a.controllers 3 0 1 refl refl)

  -- `controllers`: a not ok after an ok is refused
  pub not_ok_after_ok_refused : Answers network (refused (an_answer 3 0 0)) (lives network (ok 0 ∷ stopping)) → ⊥
  unfolding computed_life
  not_ok_after_ok_refused a = false≢true (a.controllers 3 0 0 refl refl)

  -- `controllers`: an answer is taken between a bus-off and the next request
  pub taken_before_it_is_asked : Answers network (taken (ok 1) []) (lives network (a_bus_off ∷ restarting)) → ⊥
  unfolding computed_life
  taken_before_it_is_asked a = true≢false (a.controllers 3 1 1 refl refl)

  -- `controllers`: an answer on another mode than the one asked for is taken
  pub another_mode_taken : Answers network (taken (ok 2) []) (lives network starting) → ⊥
  unfolding computed_life
  another_mode_taken a = true≢false (a.controllers 3 2 1 refl refl)

  -- `transceivers`: the report of standby is taken where normal is asked for
  pub standby_taken_for_normal : Answers fitted (taken (a_report (Report.Transceiver 1)) []) (lives fitted (a_tick ∷ resting)) → ⊥
  unfolding computed_life
  standby_taken_for_normal a = true≢false (a.transceivers 5 1 refl refl)

  -- `clears`: that the wake flag was cleared is taken once more in the next step
  pub cleared_taken_late : Answers fitted (taken (a_report Report.Cleared) []) (lives fitted clearing) → ⊥
  unfolding computed_life
  cleared_taken_late a = true≢false (a.clears 5 refl refl)

  -- `checks`: that the wake flag was checked is refused
  pub checked_refused : Answers fitted (refused (a_report Report.Checked)) (lives fitted checking) → ⊥
  unfolding computed_life
  checked_refused a = false≢true (a.checks 5 refl refl)

-- ---- requests
module _ where
  -- `accepted`: silent is taken while the network comes up
  pub silent_coming_up : Requests network (taken (a_request 1) []) (lives network starting) → ⊥
  unfolding computed_life
  silent_coming_up q = true≢false (q.accepted 1 refl)

  -- `accepted`: silent is refused while the network restarts after a bus-off
  pub silent_refused_restarting : Requests network (refused (a_request 1)) (lives network restarting) → ⊥
  unfolding computed_life
  silent_refused_restarting q = false≢true (q.accepted 1 refl)

  -- `accepted`: silent is refused during a reset
  pub silent_refused_resetting : Requests network (refused (a_request 1)) (lives network resetting) → ⊥
  unfolding computed_life
  silent_refused_resetting q = false≢true (q.accepted 1 refl)

  -- `asleep`: silent is refused with 08 while the network comes up, as older boxes did
  pub silent_coming_up_with_08 : Requests network (refused_with 0x08 (a_request 1)) (lives network starting) → ⊥
  unfolding computed_life
  silent_coming_up_with_08 q = true≢false (q.asleep 1 refl)

  -- `asleep`: and while it goes down
  pub silent_going_down_with_08 : Requests network (refused_with 0x08 (a_request 1)) (lives network falling) → ⊥
  unfolding computed_life
  silent_going_down_with_08 q = true≢false (q.asleep 1 refl)

  -- `asleep`: a network at rest is said to come up as soon as full is wanted, before any tick
  pub silent_wanted_full_with_24 : Requests network (refused_with 0x24 (a_request 1)) (lives network (a_request 2 ∷ rest)) → ⊥
  unfolding computed_life
  silent_wanted_full_with_24 q = false≢true (q.asleep 1 refl)

  -- `coming_up`: 24 and 25 are swapped
  pub silent_coming_up_with_25 : Requests network (refused_with 0x25 (a_request 1)) (lives network starting) → ⊥
  unfolding computed_life
  silent_coming_up_with_25 q = false≢true (q.coming_up 1 refl)

  -- `coming_up`: and the other way round
  pub silent_going_down_with_24 : Requests network (refused_with 0x24 (a_request 1)) (lives network falling) → ⊥
  unfolding computed_life
  silent_going_down_with_24 q = true≢false (q.coming_up 1 refl)

  -- `going_down`: from the start on a network goes down, and is not asleep before it came to rest
  pub silent_after_the_start_with_08 : Requests network (refused_with 0x08 (a_request 1)) (lives network []) → ⊥
  unfolding computed_life
  silent_after_the_start_with_08 q = false≢true (q.going_down 1 refl)

  -- `going_down`: silent is refused with 25 where the network is silent already
  pub silent_in_silent_with_25 : Requests network (refused_with 0x25 (a_request 1)) (lives network (a_tick ∷ a_request 1 ∷ full)) → ⊥
  unfolding computed_life
  silent_in_silent_with_25 q = true≢false (q.going_down 1 refl)

  -- `asleep`: full is refused with 08 at rest
  pub full_refused_with_08 : Requests network (refused_with 0x08 (a_request 2)) (lives network rest) → ⊥
  unfolding computed_life
  full_refused_with_08 q = true≢false (q.asleep 2 refl)

  -- `out_of_range`: a mode of 3 is refused as silent is
  pub mode_above_2_with_08 : Requests network (refused_with 0x08 (a_request 3)) (lives network rest) → ⊥
  unfolding computed_life
  mode_above_2_with_08 q = false≢true (q.out_of_range 3 refl)

-- ---- ticks
module _ where
  -- `stays_full`: full stays told where silent is wanted
  pub full_though_silent_is_wanted : Ticks network (ticks []) (lives network (a_request 1 ∷ full)) → ⊥
  unfolding computed_life
  full_though_silent_is_wanted t = true≢false (t.stays_full refl refl)

  -- `says_full`: full is said after the delay, where silent is wanted
  pub full_where_silent_is_wanted : Ticks network (ticks (row 3 3 0 ∷ row 6 7 2 ∷ row 7 7 2 ∷ []))
      (lives network (a_request 1 ∷ a_tick ∷ a_tick ∷ ok 1 ∷ restarting)) → ⊥
  unfolding computed_life
  full_where_silent_is_wanted t = let z : ◌≡◌ {A = ℕ} 1 2 = (t.says_full refl).called in omega arith

  -- `says_full`: full is said by the answer, before a tick
  pub full_by_the_answer : Ticks network (taken (ok 1) (row 3 3 0 ∷ row 6 7 2 ∷ row 7 7 2 ∷ [])) (lives network starting) → ⊥
  unfolding computed_life
  full_by_the_answer t = false≢true (t.says_full refl).tick

  -- `says_no`: where silent is wanted it tells no, without a shutdown
  pub no_instead_of_silent : Ticks network (ticks (row 6 7 0 ∷ [])) (lives network (a_request 1 ∷ full)) → ⊥
  unfolding computed_life
  no_instead_of_silent t = true≢false (t.says_no refl)

  -- `shuts`: after a late answer it hands out 7 no, where full is wanted
  pub no_after_a_late_answer : Ticks network (ticks (row 7 7 0 ∷ row 1 3 0 ∷ [])) (lives network (ok 1 ∷ a_tick ∷ starting)) → ⊥
  unfolding computed_life
  no_after_a_late_answer t = true≢false t.shuts

  -- `shuts`: no is wanted while the network comes up, and it goes on to come up
  pub no_shutdown_coming_up : Ticks network (ticks (row 1 3 1 ∷ [])) (lives network (a_request 0 ∷ starting)) → ⊥
  unfolding computed_life
  no_shutdown_coming_up t = false≢true t.shuts

  -- `shuts_first`: 6 silent comes before 7 no
  pub silent_before_no : Ticks network (ticks (row 6 7 1 ∷ row 7 7 0 ∷ row 1 3 0 ∷ [])) (lives network (a_request 0 ∷ full)) → ⊥
  unfolding computed_life
  silent_before_no t = let z : ◌≡◌ {A = ℕ} 6 7 = ap (kind_at 0) (t.shuts_first refl).records in omega arith

  -- `shuts_first`: 6 silent is left out, though full was told
  pub silent_left_out : Ticks network (ticks (row 7 7 0 ∷ row 1 3 0 ∷ [])) (lives network (a_request 0 ∷ full)) → ⊥
  unfolding computed_life
  silent_left_out t = let z : ◌≡◌ {A = ℕ} 1 6 = ap (kind_at 1) (t.shuts_first refl).records in omega arith

  -- `passes`: passed comes a tick early, on the second after full was said
  pub passed_a_tick_early : Ticks network (ticks (row 8 7 0 ∷ [])) (lives network (a_tick ∷ full)) → ⊥
  unfolding computed_life
  passed_a_tick_early t = true≢false t.passes

  -- `passes`: it does not come on the third
  pub passed_left_out : Ticks network (ticks []) (lives network (a_tick ∷ a_tick ∷ full)) → ⊥
  unfolding computed_life
  passed_left_out t = false≢true t.passes

  -- `online`: the controller goes online when it runs again, before full is said
  pub online_before_full : Ticks network (ticks (row 3 3 0 ∷ [])) (lives network (ok 1 ∷ restarting)) → ⊥
  unfolding computed_life
  online_before_full t = true≢false (t.online 3 refl)

  -- `online`: of two controllers only the first goes online
  pub second_left_offline : Ticks fitted (ticks (row 3 3 0 ∷ row 6 7 2 ∷ row 7 7 2 ∷ [])) (lives fitted running) → ⊥
  unfolding computed_life
  second_left_offline t = false≢true (t.online 4 refl)

  -- `notes_full`: 7 full goes out once more on the tick after full was said
  pub full_noted_twice : Ticks network (ticks (row 7 7 2 ∷ [])) (lives network full) → ⊥
  unfolding computed_life
  full_noted_twice t = true≢false t.notes_full

  -- `notes_full`: full is said, and 7 full left out
  pub full_not_noted : Ticks network (ticks (row 3 3 0 ∷ row 6 7 2 ∷ [])) (lives network (ok 1 ∷ starting)) → ⊥
  unfolding computed_life
  full_not_noted t = false≢true t.notes_full

  -- `notes_silent`: silent is told, and 7 silent left out
  pub silent_not_noted : Ticks network (ticks (row 3 3 1 ∷ row 6 7 1 ∷ [])) (lives network (a_request 1 ∷ full)) → ⊥
  unfolding computed_life
  silent_not_noted t = false≢true t.notes_silent

  -- `notes_silent`: the tick that begins the wait hands out 7 silent, and no 6 silent
  pub wait_noted_as_silent : Ticks network (ticks (row 3 3 1 ∷ row 7 7 1 ∷ [])) (lives network (ok 1 ∷ restarting)) → ⊥
  unfolding computed_life
  wait_noted_as_silent t = true≢false t.notes_silent

  -- `enters_silent`: while the network restarts it says silent in the place of asking again, so that a second bus-off would count
  pub silent_while_restarting : Ticks network (ticks (row 3 3 1 ∷ row 6 7 1 ∷ row 7 7 1 ∷ [])) (lives network (a_request 1 ∷ restarting)) → ⊥
  unfolding computed_life
  silent_while_restarting t = true≢false (t.enters_silent refl).settled

  -- `enters_silent`: it enters silent where full is wanted
  pub silent_where_full_is_wanted : Ticks network (ticks (row 3 3 1 ∷ row 6 7 1 ∷ row 7 7 1 ∷ [])) (lives network full) → ⊥
  unfolding computed_life
  silent_where_full_is_wanted t = let z : ◌≡◌ {A = ℕ} 2 1 = (t.enters_silent refl).called in omega arith

  -- `offline`: silent is told, and the controller stays online
  pub online_in_silent : Ticks network (ticks (row 6 7 1 ∷ row 7 7 1 ∷ [])) (lives network (a_request 1 ∷ full)) → ⊥
  unfolding computed_life
  online_in_silent t = false≢true (t.offline 3 refl)

  -- `offline`: the wait after a bus-off begins, and the controller does not go offline
  pub online_in_the_wait : Ticks network (ticks []) (lives network (ok 1 ∷ restarting)) → ⊥
  unfolding computed_life
  online_in_the_wait t = false≢true (t.offline 3 refl)

  -- `offline`: it goes offline once more on the second tick of the wait
  pub offline_twice : Ticks network (ticks (row 3 3 1 ∷ [])) (lives network (a_tick ∷ ok 1 ∷ restarting)) → ⊥
  unfolding computed_life
  offline_twice t = true≢false (t.offline 3 refl)

  -- `notes_bus_off`: 7 bus-off goes out once more on the tick after the bus-off
  pub bus_off_noted_by_a_tick : Ticks network (ticks (row 7 7 3 ∷ row 1 3 1 ∷ [])) (lives network (a_bus_off ∷ full)) → ⊥
  unfolding computed_life
  bus_off_noted_by_a_tick t = true≢false t.notes_bus_off

  -- `prefails`: 8 prefailed goes out on a tick of the check, without a bus-off
  pub prefailed_by_a_tick : Ticks network (ticks (row 8 7 1 ∷ [])) (lives network full) → ⊥
  unfolding computed_life
  prefailed_by_a_tick t = true≢false t.prefails

  -- `stays_down`: the controller is asked to start while the network goes down
  pub start_going_down : Ticks network (ticks (row 1 3 1 ∷ [])) (lives network (a_request 2 ∷ falling)) → ⊥
  unfolding computed_life
  start_going_down t = true≢false ((t.stays_down refl).not_started 3)

  -- `full_asks_nothing`: the controller is stopped while full is told
  pub stopped_while_full : Ticks network (ticks (row 1 3 0 ∷ [])) (lives network full) → ⊥
  unfolding computed_life
  stopped_while_full t = true≢false (t.full_asks_nothing refl)

  -- `starts`: the controller is asked to start before it said that it is stopped
  pub start_without_stopped : Ticks network (ticks (row 1 3 1 ∷ [])) (lives network stopping) → ⊥
  unfolding computed_life
  start_without_stopped t = false≢true (((t.starts 3 refl).prepared refl).stopped 3 refl)

  -- `starts`: the controllers are stopped and started without a word from the transceiver
  pub start_before_normal : Ticks fitted (ticks (row 1 3 1 ∷ row 1 4 1 ∷ [])) (taken (an_answer 4 0 1) [] ∷ taken (ok 0) [] ∷ ticks
      (row 1 3 0 ∷ row 1 4 0 ∷ []) ∷ lives fitted resting) → ⊥
  unfolding computed_life
  start_before_normal t = false≢true (((t.starts 3 refl).prepared refl).normal 5 refl)

  -- `starts`: after a stall the controller is asked to start at once, and was not stopped
  pub start_without_a_stop : Ticks network (ticks (row 1 3 1 ∷ [])) (lives network (a_stall ∷ full)) → ⊥
  unfolding computed_life
  start_without_a_stop t = false≢true ((t.starts 3 refl).stopped refl refl 3 refl)

  -- `starts`: it is asked to start though it refused to stop
  pub start_after_a_refusal : Ticks network (ticks (row 1 3 1 ∷ [])) (lives network (an_answer 3 0 0 ∷ resetting)) → ⊥
  unfolding computed_life
  start_after_a_refusal t = false≢true ((t.starts 3 refl).stopped refl refl 3 refl)

  -- `starts`: it is asked to start once more though no is wanted
  pub start_though_no_is_wanted : Ticks network (ticks (row 1 3 1 ∷ [])) (lives network (a_request 0 ∷ starting)) → ⊥
  unfolding computed_life
  start_though_no_is_wanted t = true≢false (t.starts 3 refl).called

  -- `known`: kind 8 with an argument that means nothing
  pub meaningless_status : Ticks network (ticks (row 8 7 2 ∷ [])) (lives network full) → ⊥
  unfolding computed_life
  meaningless_status t = true≢false t.known

  -- `few`: the request goes out four times in one tick
  pub four_requests : Ticks network (ticks (row 1 3 0 ∷ row 1 3 0 ∷ row 1 3 0 ∷ row 1 3 0 ∷ [])) (lives network (a_request 2 ∷ rest)) → ⊥
  unfolding computed_life
  four_requests t = let z : 4 ≤ 3 = t.few refl in omega arith

  -- `none`: the next request goes out with the answer
  pub request_by_the_answer : Ticks network (taken (ok 0) (row 1 3 1 ∷ [])) (lives network stopping) → ⊥
  unfolding computed_life
  request_by_the_answer t = let z : ◌≡◌ {A = ℕ} 1 0 = ap length (t.none refl refl refl) in omega arith
