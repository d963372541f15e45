-- `Salvage` of specs/Salvage.antt holds, by the laws of the contract alone.
--   salvage   it holds
-- Assumes nothing.
use mathlib.Core.Path.{refl}
use Rattle.job_salvage.proofs.Keeping.{keeps-exactly}
use Rattle.job_salvage.proofs.Pieces.{pieces_kept, pieces-dropped, pieces_whole}
use Rattle.job_salvage.proofs.Whole.{nothing-dropped}
use Rattle.job_salvage.proofs.Contract.{kept-says, copied-kept, nothing-behind, answer-adds, answer_back, answer-again}
use Rattle.demands.specs.Salvage.{Salvage}

pub salvage : Salvage
salvage = record {
  exactly = keeps-exactly;
  on = pieces_kept;
  off = pieces-dropped;
  whole = pieces_whole 0;
  front = λ file room after n b h. let s = kept-says file room after h refl in (copied-kept s, nothing-behind s);
  lengths = λ file room after n b h. answer-adds (kept-says file room after h refl);
  back = λ rs room after r a l h. answer_back room after a l h;
  all = λ rs a. nothing-dropped a;
  again = λ file room after n b room' after' r h l k. answer-again room' after' (kept-says file room after h refl) l k;
}
