-- What the crates above may cite of this crate's proofs. All else is its own.

-- What one entry more changes of the words of a history, and what it leaves.
pub use Rattle.dim_rag.proofs.Words.{allow-about, allow-other, hold-about, hold-other, mode-other, mode-word, not_about, same, same_pair, wish-other}
-- How often locks are held, by the words of a history and by the counts that are kept.
pub use Rattle.dim_rag.proofs.Counting.{held_counts}
-- Rows and holders stay those of the history as it grows.
pub use Rattle.dim_rag.proofs.Steps.{past_more}
-- Entries are equal where `==` says so.
pub use Rattle.dim_rag.proofs.Same.{Decides-entry}
-- The walks from all threads find exactly the cycles.
pub use Rattle.dim_rag.proofs.AllCycles.{cycles_law}
-- Stuck sets: what holds a member holds it in each larger set, the union of two is one, and taking out who is free leaves the greatest.
pub use Rattle.dim_rag.proofs.StuckSets.{stale_law, stale_none, stuck_law, union_law}
-- Who is waited for is a thread.
pub use Rattle.dim_rag.proofs.Owners.{waits_law}
-- The choice of a stuck set.
pub use Rattle.dim_rag.proofs.Choices.{choice_law}
-- What is among the elements of lists that are put together.
pub use Rattle.dim_rag.proofs.Among.{in_left, in_parts, in_right}
-- The list of edges has each edge, and they stand by birth.
pub use Rattle.dim_rag.proofs.Born.{edge_on, hold_names, law as edges_law, same_edge}
-- What one entry more makes of the edges: none returns, and only a grant gives a new one.
pub use Rattle.dim_rag.proofs.Grows.{IsGotFit, IsNew, edge_step}
-- Which edges are in the lists of edges by thread and lock, and by which births they are found there.
pub use Rattle.dim_rag.proofs.Members.{all_in, birth_found, birth_put, set_found, set_put}
-- A history, newest entry first, against the list as it is kept, oldest first.
pub use Rattle.dim_rag.proofs.Kept.{newest_at, older_at, place_cases}
-- In a list whose entries are in range, so are edges, wishes and modes.
pub use Rattle.dim_rag.proofs.Ranges.{edge_below, hold_below, mode_below}
-- What recursion over a history finds is what stands at the greatest place.
pub use Rattle.dim_rag.proofs.Places.{before_newest, before_older, older_low}
-- The laws by places.
pub use Rattle.dim_rag.proofs.PlaceLaws.{fits_law}
-- The laws of edges.
pub use Rattle.dim_rag.proofs.EdgeLaws.{members_law, no_return_law, standing_law}
-- The first position at which a test fails, by positions and as a loop finds it.
pub use Rattle.dim_rag.proofs.FirstFailing.{none_failing}
-- The first position that does not pass, of a certificate for a cycle or for a starvation.
pub use Rattle.dim_rag.proofs.Faults.{all_pass, fault_several}
-- What passes is a cycle, and each cycle passes.
pub use Rattle.dim_rag.proofs.Certificates.{certificate_law, held_found, held_is, holder_hold}
-- A cycle stands at each longer list that fits.
pub use Rattle.dim_rag.proofs.Stays.{cycle_stays_law, not_got}
-- Rows, holders, wishes and grants of a history that fits.
pub use Rattle.dim_rag.proofs.Replayed.{count_law, holder_of, rows_of, wish_of}
-- A thread that yields lacks the lock that it wants, in each list.
pub use Rattle.dim_rag.proofs.Lacks.{asking_runs, yielding_lacks}
-- The edge with a birth.
pub use Rattle.dim_rag.proofs.EdgeBorn.{edge_found, found_edge}
-- What a step is, and which places are the births of a starvation.
pub use Rattle.dim_rag.proofs.Starving.{cycle_edges, starvation_law, starved_passes, step_law}
-- A Learn changes no edge, no mode and no step.
pub use Rattle.dim_rag.proofs.Learning.{choice_same, found_same, stale_same, starved_same, waits_same}
