-- `RankLaws` has what the scans compute, in the rules' words.
pub mod RankLaws
