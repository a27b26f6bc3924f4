-- Requests that ask for no change, and what is known of the flushes before them.
use Rattle.std.proofs.Common.{◌≡◌, List, Bool, true, false, refl}
use Rattle.std.specs.Prelude.{Result, Ok, Err}
use Rattle.plain_types.specs.declared.answer.Refusal.{Refusal}
use Rattle.plain_types.specs.declared.entry.Entry.{Entry}
use Rattle.plain_types.specs.declared.request.Request.{Request}
use Rattle.plain_types.specs.declared.request.Request.TheVariants as request
use Rattle.plain_tree.specs.Query.{Found, InLive, InTree, SnapsOf}
use Rattle.meta_state.specs.Queries.{IsFoundPast}
use Rattle.mds_state.specs.Fits.{AllPast}
use Rattle.step_table.specs.Requests.{treat_new}
use Rattle.step_table.specs.ServerState.{Asked, Server}
use Rattle.mds_asks.specs.Queries.{is_query}

-- where each flush came when its ids were made, so did those of a file that is found
pub found_past : (entries : List Entry) (led : Result Found Refusal) → AllPast entries → IsFoundPast entries led
found_past entries (Ok (InLive ino)) past = tt
found_past entries (Ok (SnapsOf dir)) past = tt
found_past entries (Ok (InTree s ino)) past = past ino
found_past entries (Err refusal) past = tt

-- deferred operations don't matter
pub counts_no_others : (alone : Bool) (s : Server) (a : Asked) (asked : Request) → is_query asked ≡ true → treat_new alone s a asked ≡ treat_new false s a asked
counts_no_others alone s a (request.Cap ino mode) is = refl
counts_no_others alone s a (request.Cat path) is = refl
counts_no_others alone s a (request.Stat path) is = refl
counts_no_others alone s a (request.List path) is = refl
counts_no_others alone s a (request.Realm path) is = refl
counts_no_others alone s a (request.Clones path index) is = refl
counts_no_others alone s a (request.Barrier number) is = refl
counts_no_others alone s a asked is = cc
