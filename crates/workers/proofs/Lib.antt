pub mod WorkerLaws
